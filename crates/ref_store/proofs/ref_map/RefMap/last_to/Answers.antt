use Rattle.ref_store.proofs.RefLemmas.{greatest_some, greatest_none}
use Rattle.ref_store.proofs.ref_map.RefMap.last_to.Goals as goal

pub returns-in-Some-next_back : goal.returns-in-Some-next_back
returns-in-Some-next_back c = greatest_some c.args.self.now c.self.inside.entries c.args.to.now c.in-Some-next_back.name.now c.in-Some-next_back.field-0-1.now c.range-names.result c.next_back.new.self c.self.view_is (c.range-names.ensures.in_range tt) c.in-Some-next_back.ensures.steps

pub returns-in-None : goal.returns-in-None
returns-in-None c = greatest_none c.args.self.now c.self.inside.entries c.args.to.now c.range-names.result c.self.view_is (c.range-names.ensures.in_range tt) c.in-None.ensures.steps.0
