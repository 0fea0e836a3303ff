use Rattle.std.proofs.Common.{◌≡◌, Some, None, sym, ◌∙◌, ap}
use Rattle.ref_store.specs.Objects.{place_of}
use Rattle.ref_store.proofs.ObjectLemmas.{within, within_yes, within_no, place_take}
use Rattle.ref_store.proofs.object_table.ObjectTable.place.Goals as goal

pub returns-then-at-among : goal.returns-then-at-among
returns-then-at-among c =
    let found : Some c.in-Some.at.now ≡ place_of c.args.self.now c.args.id = c.in-Some.ensures.value ∙ c.self.invariant.places c.args.id ∙ ap (λ os. place_of os c.args.id) c.self.view_is in
    sym (place_take c.args.among c.args.self.now c.args.id ∙ ap (within c.args.among) (sym found) ∙ within_yes c.args.among c.in-Some.at.now c.if-at-among.true)

pub returns-else-at-among : goal.returns-else-at-among
returns-else-at-among c =
    let found : Some c.in-Some.at.now ≡ place_of c.args.self.now c.args.id = c.in-Some.ensures.value ∙ c.self.invariant.places c.args.id ∙ ap (λ os. place_of os c.args.id) c.self.view_is in
    sym (place_take c.args.among c.args.self.now c.args.id ∙ ap (within c.args.among) (sym found) ∙ within_no c.args.among c.in-Some.at.now c.if-at-among.false)

pub returns-in-None : goal.returns-in-None
returns-in-None c =
    let absent : None ≡ place_of c.args.self.now c.args.id = c.in-None.ensures.value ∙ c.self.invariant.places c.args.id ∙ ap (λ os. place_of os c.args.id) c.self.view_is in
    sym (place_take c.args.among c.args.self.now c.args.id ∙ ap (within c.args.among) (sym absent))
