-- Steps on the way to a ref that can't stand beside a name.
use Rattle.std.specs.Prelude.{◌≡◌, ℕ, suc, ◌+◌, ◌==◌, nat_eq, nat_le, Bool, ◌&&◌, [], ◌∷◌, length, take, slice_range, get_or, Option, None, Some, IsSome, if◌then◌else◌}
use lib.Pointwise.{pointwise}
use Rattle.std.specs.FinMap.{get}
use Rattle.ref_store.specs.Refs.{Name, Refs, IsBelow, IsLeastAtOdds}

-- no ref is a directory of the name
abbrev pub HasNoDirectory : Refs → Name → Type 0
HasNoDirectory refs name = (q : Name) → IsSome (get refs q) → ¬ IsBelow name q

abbrev pub TellsOfDirectory : Refs → Name → Option Name → Type 0
TellsOfDirectory refs name None = HasNoDirectory refs name
TellsOfDirectory refs name (Some r) = IsLeastAtOdds refs name r

-- whether a ref ends where the name has a slash
abbrev pub TellsOfPlace : Refs → Name → ℕ → Option Name → Type 0
TellsOfPlace refs name i None = get_or name i 0 ≡ 47 → get refs (take i name) ≡ None
TellsOfPlace refs name i (Some r) = (get_or name i 0 ≡ 47) × (r ≡ take i name) × IsSome (get refs (take i name))

-- how many bytes two names have in common at the front
abbrev pub common : Name → Name → ℕ
common [] b = 0
common (x ∷ a) [] = 0
common (x ∷ a) (y ∷ b) = if x == y then suc (common a b) else 0

-- two names have the same block of 64 bytes at a place
abbrev pub has_same_block : Name → Name → ℕ → Bool
has_same_block a b at = nat_le (at + 64) (length a) && nat_le (at + 64) (length b) && pointwise nat_eq (slice_range a at (at + 64)) (slice_range b at (at + 64))
