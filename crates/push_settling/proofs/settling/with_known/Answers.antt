use Rattle.std.proofs.Common.{◌≡◌, List, ◌++◌, sym, ◌∙◌, ap, subst, append-nil}
use Rattle.git_object.specs.Content.{Content}
use Rattle.ref_store.specs.Store.{Store}
use Rattle.ancestry.specs.declared.closures.Closures.{Closures}
use Rattle.ancestry.specs.Closures.{AreClosures}
use Rattle.ancestry.specs.Known.{AreKnown}
use Rattle.push_settling.proofs.settling.with_known.Goals as goal

pub with_repo-requires-clause-known : goal.with_repo-requires-clause-known
with_repo-requires-clause-known c =
    let prepared = c.args.prepared in
    let store : c.in_ok-repo.repo.objects ≡ c.args.now.now.objects = ap (λ (s : Store). s.objects) (c.in_ok-repo.ensures ∙ c.repo.ensures) in
    let none = c.brings_none.ensures c.if-not-brings_none.false in
    let same : prepared.objects ≡ c.args.now.now.objects = c.requires.behind ∙ ap (λ (os : List Content). prepared.before ++ os) none ∙ append-nil prepared.before ∙ c.requires.same in
    subst (λ (os : List Content). AreKnown os c.into_known.result) (same ∙ sym store) c.into_known.ensures

pub with_repo-requires-clause-closures : goal.with_repo-requires-clause-closures
with_repo-requires-clause-closures c =
    let objects = c.args.now.now.objects in
    let store : c.in_ok-repo.repo.objects ≡ objects = ap (λ (s : Store). s.objects) (c.in_ok-repo.ensures ∙ c.repo.ensures) in
    subst (λ (os : List Content). AreClosures os c.in_ok-closures.closures) (sym store) (subst (λ (cs : Closures). AreClosures objects cs) (sym c.in_ok-closures.ensures.cases) c.closures.ensures)
