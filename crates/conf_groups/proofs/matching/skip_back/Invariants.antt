use Rattle.std.proofs.Common.{◌≡◌, length}
use Rattle.conf_groups.specs.Files.{fits}
use Rattle.conf_groups.proofs.matching.skip_back.Given as goal

abbrev pub invariant-loop-left : goal.invariant-loop-left
invariant-loop-left l = fits l.pattern l.name ≡ fits l.left l.bytes

abbrev pub decreases-loop-left : goal.decreases-loop-left
decreases-loop-left l = length l.left
