use Rattle.std.proofs.Common.{◌≡◌, ◌<◌, ℕ, slice_index}
use Rattle.refex.specs.Machine.{Has}
use Rattle.refex.proofs.machine.after_hole.Given as goal

abbrev pub invariant-loop-h : goal.invariant-loop-h
invariant-loop-h l = (k : ℕ) → k < l.h → Has l.holes k → slice_index l.follow k ≡ l.after
