use Rattle.std.proofs.Common.{sym, ◌∙◌}
use Rattle.base_types.proofs.NameMaps.{get-entries}
use Rattle.ref_store.proofs.RefLemmas.{not_there}
use Rattle.ref_store.proofs.ref_map.RefMap.get.Goals as goal

pub returns : goal.returns
returns c = c.get.ensures.value ∙ sym (get-entries c.self.inside.entries c.args.name.now) ∙ rw c.self.view_is

pub returns-then-is_some : goal.returns-then-is_some
returns-then-is_some c = not_there c.last_before.result c.args.self.now c.args.name.now c.last_before.ensures.none_from (sym c.is_some.ensures ∙ c.if-is_some.true)
