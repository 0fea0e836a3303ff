use Rattle.std.proofs.Common.{◌≡◌, drop}
use Rattle.ancestry.specs.Tables.{first_in}
use Rattle.ancestry.proofs.layers.Layers.get.Given as goal

abbrev pub invariant-loop-layer : goal.invariant-loop-layer
invariant-loop-layer g l = first_in l.self l.id ≡ first_in (drop l.layer-index l.self) l.id
