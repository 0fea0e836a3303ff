use Rattle.vref.specs.Differences.{AreSifted}
use Rattle.vref.proofs.differences.sift_names.Given as goal

abbrev pub invariant-loop-name : goal.invariant-loop-name
invariant-loop-name l = AreSifted l.yielded l.list.items
