use Rattle.std.proofs.Common.{◌≡◌, ◌+◌, ◌==◌, drop, true, false}
use Rattle.std.specs.Option.{option_map}
use Rattle.refex.specs.Text.{class_length}
use Rattle.refex.proofs.text.class_length.Given as goal

abbrev pub invariant-loop-i : goal.invariant-loop-i
invariant-loop-i l = class_length true false l.bytes ≡ option_map (λ n. l.i + n) (class_length (l.i == 0) l.behind (drop l.i l.bytes))
