use Rattle.std.proofs.Common.{sym, ◌∙◌, ap, arith}
use Rattle.std.proofs.lemmas.Grind.{common_steps}
use Rattle.hub_history.specs.State.{placed_in}
use Rattle.hub.specs.Names.{map_of}
use Rattle.hub.proofs.NameLemmas.{placed_in-push}
use Rattle.hub.proofs.table.RepoTable.put_all.Goals as goal

pub loop-name-preserved : goal.loop-name-preserved
loop-name-preserved c = record {
  room = grind (arith, common_steps);
  map =
      ap (λ m. placed_in m c.pop.new.self.items) c.put.ensures.map
      ∙ sym (placed_in-push (map_of c.loop-name.self.entries.entries) c.pop.new.self.items (c.in-Some.name, c.in-Some.repository))
      ∙ ap (placed_in (map_of c.loop-name.self.entries.entries)) (sym c.in-Some.ensures.items)
      ∙ c.loop-name.invariant.map;
}
