use Rattle.std.proofs.Common.{◌≡◌, ◌++◌, List, length}
use Rattle.std.specs.List.{AllZip}
use Rattle.git_object.specs.declared.object_id.ObjectId.{ObjectId}
use Rattle.vref.specs.Advances.{IsAdvance}
use Rattle.vref.proofs.advances.advances_between.Given as goal

abbrev pub invariant-loop-rest : goal.invariant-loop-rest
invariant-loop-rest l = (done : List (ObjectId × ObjectId)) × (done ++ l.rest ≡ l.pairs) × AllZip (IsAdvance l.lens) done l.advances.items

abbrev pub decreases-loop-rest : goal.decreases-loop-rest
decreases-loop-rest l = length l.rest
