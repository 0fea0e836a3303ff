use Rattle.std.proofs.Common.{◌≡◌, map, take}
use Rattle.vref.specs.Through.{turned}
use Rattle.vref.proofs.through.turned_differences.Given as goal

abbrev pub invariant-loop-found : goal.invariant-loop-found
invariant-loop-found l = l.back.items ≡ map turned (take l.found-index l.list)
