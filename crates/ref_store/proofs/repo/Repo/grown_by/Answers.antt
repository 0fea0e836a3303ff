use Rattle.std.proofs.Common.{◌≡◌, ◌++◌, List, sym, ◌∙◌, ap, subst}
use Rattle.std.specs.Option.{IfSome}
use Rattle.git_object.specs.Content.{Content}
use Rattle.ref_store.specs.Objects.{HasNamesOnce}
use Rattle.ref_store.specs.Refs.{HasNoZero, HasRefNames, HasRefsApart, Refs}
use Rattle.ref_store.specs.Segments.{all_of}
use Rattle.ref_store.specs.Store.{Store}
use Rattle.ref_store.proofs.repo.Repo.grown_by.Goals as goal

abbrev stored : List Content → Refs → Store
stored os rs = record { objects = os; refs = rs }

pub invariant_of-result : goal.invariant_of-result
invariant_of-result c =
    let kept : all_of c.self.inside.objects ≡ c.args.self.now.objects = ap (λ (s : Store). s.objects) c.self.view_is in
    let grown : all_of c.in-Some.objects ≡ all_of c.self.inside.objects ++ c.args.fresh.now.objects = subst (λ found. IfSome found (λ s. all_of s ≡ all_of c.self.inside.objects ++ c.args.fresh.now.objects)) c.in-Some.is c.in_ok-objects.ensures in
    let is : all_of c.in-Some.objects ≡ c.args.self.now.objects ++ c.args.fresh.now.objects = grown ∙ ap (λ os. os ++ c.args.fresh.now.objects) kept in
    let refs : c.in_ok-refs.refs ≡ c.self.inside.refs = c.in_ok-refs.ensures.cases in
    record {
      names = subst HasNamesOnce (sym is) c.requires.names;
      refs = subst HasRefNames (sym refs) c.self.invariant.refs;
      values = subst HasNoZero (sym refs) c.self.invariant.values;
      apart = subst HasRefsApart (sym refs) c.self.invariant.apart;
    }

pub returns : goal.returns
returns c =
    let kept : all_of c.self.inside.objects ≡ c.args.self.now.objects = ap (λ (s : Store). s.objects) c.self.view_is in
    let grown : all_of c.in-Some.objects ≡ all_of c.self.inside.objects ++ c.args.fresh.now.objects = subst (λ found. IfSome found (λ s. all_of s ≡ all_of c.self.inside.objects ++ c.args.fresh.now.objects)) c.in-Some.is c.in_ok-objects.ensures in
    let is : all_of c.in-Some.objects ≡ c.args.self.now.objects ++ c.args.fresh.now.objects = grown ∙ ap (λ os. os ++ c.args.fresh.now.objects) kept in
    let refs : c.in_ok-refs.refs ≡ c.args.self.now.refs = c.in_ok-refs.ensures.cases ∙ ap (λ (s : Store). s.refs) c.self.view_is in
    ap (λ (os : List Content). stored os c.in_ok-refs.refs) is ∙ ap (stored (c.args.self.now.objects ++ c.args.fresh.now.objects)) refs
