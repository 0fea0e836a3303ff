use Rattle.hub.proofs.NameLemmas.{updated}
use Rattle.hub.proofs.table.RepoTable.put.Goals as goal

pub returns-clause-map : goal.returns-clause-map
returns-clause-map c = updated c.args.self.now.entries.entries c.insert.new.self.entries c.args.name c.args.repository c.in-Ok.ensures.updates.0
