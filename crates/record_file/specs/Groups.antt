-- Records that are built in one buffer, as they will be written.
use Rattle.std.specs.Prelude.{◌≡◌, ℕ, ◌+◌, ◌<◌, ◌≤◌, ◌^◌, List, [], ◌∷◌, ◌++◌, length, map, take, drop, slice_index}
use Rattle.std.specs.List.{All}
use Rattle.record_file.specs.Records.{open_records, IsGroup}

-- a group that is being built: the bodies of its whole records, and what its last record's body has so far
pub record BuilderState : Type 0 where
  pub bodies : List (List ℕ)
  pub body : List ℕ

-- the bodies of the records at the front of a buffer, by their lengths
abbrev pub bodies_in : List ℕ → List ℕ → List (List ℕ)
bodies_in [] bytes = []
bodies_in (size ∷ sizes) bytes = take size (drop 9 bytes) ∷ bodies_in sizes (drop (9 + size) bytes)

-- The buffer has whole records with bodies of these lengths, an open gate at `start`, and eight bytes for a
-- length.
pub record IsBuilt (bytes : List ℕ) (sizes : List ℕ) (start : ℕ) : Type 0 where
  pub long : start + 9 ≤ length bytes
  pub whole : take start bytes ≡ open_records (bodies_in sizes bytes)
  pub gate : slice_index bytes start ≡ 1
  pub same : sizes ≡ map (λ body. length body) (bodies_in sizes bytes)
  pub fit : All (λ body. length body < 2 ^ 64) (bodies_in sizes bytes)

-- The buffer has the records of a group, the first gate included, and a zero gate behind them.
pub record IsFinished (bytes : List ℕ) (bodies : List (List ℕ)) : Type 0 where
  pub spells : bytes ≡ open_records bodies ++ 0 ∷ []
  pub group : IsGroup bodies
