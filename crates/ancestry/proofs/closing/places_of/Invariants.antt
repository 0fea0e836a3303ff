use Rattle.std.proofs.Common.{take, ◌<◌}
use Rattle.std.specs.List.{All}
use Rattle.ancestry.proofs.ClosureLemmas.{ArePlacesOf}
use Rattle.ancestry.proofs.closing.places_of.Given as goal

abbrev pub invariant-loop-at : goal.invariant-loop-at
invariant-loop-at l = record {
  are : ArePlacesOf l.front (take l.at l.set) l.places.items;
  small : All (λ place. place < 4294967295) l.places.items;
}
