-- What a set of bytes holds, as it is kept: a bit for each byte.
use Rattle.std.specs.Prelude.{ℕ, ◌-◌, ◌==◌, ◌&&◌, Bool, nat_lt, if◌then◌else◌}
use Rattle.std.specs.Int.{bit_at}
use Rattle.refex.specs.declared.bytes.ByteSet.{ByteSet}

abbrev pub holds : ByteSet → ℕ → Bool
holds set c = nat_lt c 256 && (if nat_lt c 128 then bit_at set.low c == 1 else bit_at set.high (c - 128) == 1)
