use Rattle.hub.proofs.NameLemmas.{updated}
use Rattle.hub.proofs.since.put.Goals as goal

pub returns : goal.returns
returns c = updated c.args.wilds.now.entries c.insert.new.self.entries c.args.name c.args.place c.in-Ok.ensures.updates.0
