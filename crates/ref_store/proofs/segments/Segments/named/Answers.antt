use Rattle.std.proofs.Common.{◌≡◌, Some, take, sym, ◌∙◌}
use Rattle.ref_store.specs.Objects.{place_of}
use Rattle.ref_store.specs.Segments.{all_of}
use Rattle.ref_store.proofs.ObjectLemmas.{first_none, first_there, place_within, slice_get_take}
use Rattle.ref_store.proofs.segments.Segments.named.Goals as goal

pub returns-in-Some : goal.returns-in-Some
returns-in-Some c =
    let all = all_of c.args.self.now in
    let at = c.in-Some.field-0-0 in
    let is : place_of (take c.args.among all) c.args.id ≡ Some at = sym c.in-Some.ensures.place in
    let below = place_within c.args.among all c.args.id at is in
    sym c.in-Some.ensures.object ∙ sym (slice_get_take c.args.among all at below) ∙ sym (first_there (take c.args.among all) c.args.id at is)

pub returns-in-None : goal.returns-in-None
returns-in-None c = sym (first_none (take c.args.among (all_of c.args.self.now)) c.args.id (sym c.in-None.ensures.place))
