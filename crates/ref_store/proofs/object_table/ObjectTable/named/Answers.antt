use Rattle.std.proofs.Common.{◌≡◌, Some, take, sym, ◌∙◌}
use Rattle.ref_store.specs.Objects.{place_of}
use Rattle.ref_store.proofs.ObjectLemmas.{first_none, first_there, place_within, slice_get_take}
use Rattle.ref_store.proofs.object_table.ObjectTable.named.Goals as goal

pub returns-in-Some : goal.returns-in-Some
returns-in-Some c =
    let at : place_of (take c.args.among c.args.self.now) c.args.id ≡ Some c.in-Some.at = sym c.in-Some.ensures in
    let below = place_within c.args.among c.args.self.now c.args.id c.in-Some.at at in
    c.get.ensures
    ∙ sym (slice_get_take c.args.among c.args.self.now c.in-Some.at below)
    ∙ sym (first_there (take c.args.among c.args.self.now) c.args.id c.in-Some.at at)

pub returns-in-None : goal.returns-in-None
returns-in-None c = sym (first_none (take c.args.among c.args.self.now) c.args.id (sym c.in-None.ensures))
