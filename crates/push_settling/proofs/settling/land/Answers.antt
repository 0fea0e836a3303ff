use Rattle.std.proofs.Common.{◌≡◌, List, ◌++◌, sym, ◌∙◌, ap, subst}
use Rattle.git_object.specs.Content.{Content}
use Rattle.ref_store.specs.Objects.{HasNamesOnce}
use Rattle.ref_store.specs.Store.{Store}
use Rattle.ancestry.specs.Closures.{AreClosures}
use Rattle.ancestry.specs.Known.{AreKnown}
use Rattle.push_settling.proofs.settling.land.Goals as goal

pub with_repo-requires-clause-known : goal.with_repo-requires-clause-known
with_repo-requires-clause-known c =
    let left = c.args.now.now.objects ++ c.args.fresh.objects in
    let all : c.add.new.self.objects ≡ left = ap (λ (s : Store). s.objects) c.in_ok-add.ensures.ok ∙ ap (λ (os : List Content). os ++ c.args.fresh.objects) c.requires.objects in
    subst (λ (os : List Content). AreKnown os c.in_ok-known.known) (sym all) (c.in_ok-known.ensures left c.requires.left)

pub with_repo-requires-clause-closures : goal.with_repo-requires-clause-closures
with_repo-requires-clause-closures c =
    let left = c.args.now.now.objects ++ c.args.fresh.objects in
    let all : c.add.new.self.objects ≡ left = ap (λ (s : Store). s.objects) c.in_ok-add.ensures.ok ∙ ap (λ (os : List Content). os ++ c.args.fresh.objects) c.requires.objects in
    subst (λ (os : List Content). AreClosures os c.in_ok-closures.closures) (sym all) (c.in_ok-closures.ensures left c.requires.left)

pub add-requires-clause-names : goal.add-requires-clause-names
add-requires-clause-names c = subst (λ (os : List Content). HasNamesOnce (os ++ c.args.fresh.objects)) (sym c.requires.objects) c.requires.names
