use Rattle.std.proofs.Common.{◌≡◌, ◌++◌, ℕ, map, Bor}
use Rattle.vref.proofs.path_table.push_reversed.Given as goal

abbrev pub invariant-loop-byte : goal.invariant-loop-byte
invariant-loop-byte l = l.bytes.items ≡ l.fn.bytes.items ++ map (λ (b : Bor ℕ). b.now) l.yielded
