-- Finite maps by names.
use Rattle.std.specs.Ordering.{nat_cmp}
use Rattle.std.specs.Cmp.Lexicographic.{slice_cmp}
use Rattle.std.specs.FinMap.{FinMap}

-- a finite map from names, which are lists of bytes, in the byte order of the names
abbrev pub ByName : Type 0 → Type 0
ByName X = FinMap (slice_cmp nat_cmp) X
