use Rattle.std.proofs.Common.{◌≡◌, ◌++◌, List, sym, ◌∙◌, ap, subst}
use Rattle.git_object.specs.Content.{Content}
use Rattle.ref_store.specs.Objects.{HasNamesOnce}
use Rattle.ref_store.specs.Refs.{Refs}
use Rattle.ref_store.specs.Segments.{all_of}
use Rattle.ref_store.specs.Store.{Store}
use Rattle.ref_store.proofs.repo.Repo.add.Goals as goal

abbrev stored : List Content → Refs → Store
stored os rs = record { objects = os; refs = rs }

pub invariant_of-self : goal.invariant_of-self
invariant_of-self c =
    let kept = all_of c.self.inside.objects in
    let objects : kept ≡ c.args.self.now.objects = ap (λ (s : Store). s.objects) c.self.view_is in
    let is : all_of c.in_ok-objects.objects ≡ c.args.self.now.objects ++ c.args.fresh.objects = c.in_ok-objects.ensures ∙ ap (λ os. os ++ c.args.fresh.objects) objects in
    record { names = subst HasNamesOnce (sym is) c.requires.names; refs = c.self.invariant.refs; values = c.self.invariant.values; apart = c.self.invariant.apart }

pub returns-clause-ok : goal.returns-clause-ok
returns-clause-ok c =
    let kept = all_of c.self.inside.objects in
    let objects : kept ≡ c.args.self.now.objects = ap (λ (s : Store). s.objects) c.self.view_is in
    let refs : c.self.inside.refs ≡ c.args.self.now.refs = ap (λ (s : Store). s.refs) c.self.view_is in
    let is : all_of c.in_ok-objects.objects ≡ c.args.self.now.objects ++ c.args.fresh.objects = c.in_ok-objects.ensures ∙ ap (λ os. os ++ c.args.fresh.objects) objects in
    ap (λ (os : List Content). stored os c.self.inside.refs) is ∙ ap (stored (c.args.self.now.objects ++ c.args.fresh.objects)) refs
