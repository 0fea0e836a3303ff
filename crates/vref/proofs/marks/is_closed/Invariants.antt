use Rattle.std.proofs.Common.{◌<◌, ℕ, get_or}
use Rattle.vref.specs.Marks.{IsMarked}
use Rattle.vref.proofs.marks.is_closed.Given as goal

abbrev pub invariant-loop-k : goal.invariant-loop-k
invariant-loop-k l = (i : ℕ) (d : ℕ × ℕ) (bit : ℕ) → i < l.k → IsMarked l.words (get_or l.links i d).0 bit → IsMarked l.words (get_or l.links i d).1 bit
