use Rattle.std.proofs.Common.{◌≡◌, List, ◌++◌, [], sym, ◌∙◌, ap, subst, append-nil}
use Rattle.git_object.specs.Content.{Content}
use Rattle.ref_store.proofs.ObjectLemmas.{first_kept}
use Rattle.ancestry.specs.Known.{AreKnown}
use Rattle.ancestry.specs.declared.known.Known.{Known}
use Rattle.push_judging.proofs.ListLemmas.{none_by_test}
use Rattle.push_judging.proofs.judging.known_with.Goals as goal

pub returns-then-is_empty : goal.returns-then-is_empty
returns-then-is_empty c =
    let objects = c.args.pin.now.pinned.repository.objects in
    let none : c.args.pack.now ≡ [] = none_by_test c.args.pack.now (sym c.is_empty.ensures ∙ c.if-is_empty.true) in
    let all : objects ≡ objects ++ c.args.pack.now = sym (append-nil objects) ∙ ap (λ (os : List Content). objects ++ os) (sym none) in
    subst (λ (k : Known). AreKnown (objects ++ c.args.pack.now) k) (sym c.in_ok-clone.ensures.cases) (subst (λ (os : List Content). AreKnown os c.known.result.now) all c.known.ensures)

pub returns : goal.returns
returns c =
    let objects = c.args.pin.now.pinned.repository.objects in
    c.grown.ensures objects (objects ++ c.args.pack.now) (λ id o is. first_kept objects c.args.pack.now id o is) c.known-2.ensures
