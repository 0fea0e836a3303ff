use Rattle.ref_store.proofs.RefLemmas.{least_some, least_none}
use Rattle.ref_store.proofs.ref_map.RefMap.first_from.Goals as goal

pub returns-in-Some : goal.returns-in-Some
returns-in-Some c = least_some c.args.self.now c.self.inside.entries c.args.from.now c.in-Some.name.now c.in-Some.field-0-1.now c.range-names.result c.next.new.self c.self.view_is (c.range-names.ensures.in_range tt) c.in-Some.ensures.steps

pub returns-in-None : goal.returns-in-None
returns-in-None c = least_none c.args.self.now c.self.inside.entries c.args.from.now c.range-names.result c.self.view_is (c.range-names.ensures.in_range tt) c.in-None.ensures.steps.0
