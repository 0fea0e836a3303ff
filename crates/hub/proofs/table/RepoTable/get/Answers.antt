use Rattle.std.proofs.Common.{sym, ◌∙◌}
use Rattle.hub.proofs.NameLemmas.{get-map_of}
use Rattle.hub.proofs.table.RepoTable.get.Goals as goal

pub returns : goal.returns
returns c = c.get.ensures.value ∙ sym (get-map_of c.args.self.now.entries.entries c.args.name.now)
