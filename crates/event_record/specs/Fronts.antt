-- What the first bytes of a body say.
use Rattle.std.specs.Prelude.{ℕ, List, length, take, drop, slice_index, Option, Some, None, nat_lt, ◌==◌, if◌then◌else◌}
use Rattle.std.specs.Int.{w64, from_be_bytes}

-- the place of the opening that a push is after: the eight bytes behind its caller and the byte that says
-- that it is one
abbrev pub place_at : List ℕ → Option ℕ
place_at front = if nat_lt (length front) 17 then None else if slice_index front 8 == 2 then Some (from_be_bytes w64 (take 8 (drop 9 front))) else None
