-- Words of bits, one for each commit in a list: bit `k` marks the ancestors of the `k`-th of some commits,
-- the tips.
use Rattle.std.specs.Prelude.{◌≡◌, ℕ, ◌<◌, List, length, Some, slice_get, slice_index}
use Rattle.std.specs.Int.{bit_at}
use Rattle.std.specs.List.{Contains}
use Rattle.git_object.specs.Content.{Content}
use Rattle.git_object.specs.declared.object_id.ObjectId.{ObjectId}
use Rattle.ancestry.specs.Ancestors.{IsAncestor}
use Rattle.vref.specs.History.{AreLinks, place}

-- the bit is set
abbrev pub Has : ℕ → ℕ → Type 0
Has word bit = bit_at word bit ≡ 1

-- the bit of the word at the place is set
abbrev pub IsMarked : List ℕ → ℕ → ℕ → Type 0
IsMarked words i bit = Has (slice_index words i) bit

-- the ancestors of the tips are marked, each with the bits of the tips that it is an ancestor of
pub record AreMarks (objects : List Content) (ids tips : List ObjectId) (words : List ℕ) : Type 0 where
  pub only : (i bit : ℕ) → IsMarked words i bit → (id tip : ObjectId) × (slice_get ids i ≡ Some id) × (slice_get tips bit ≡ Some tip) × IsAncestor objects id tip
  pub all : (bit : ℕ) (id tip : ObjectId) → slice_get tips bit ≡ Some tip → IsAncestor objects id tip → (i : ℕ) × (place ids id ≡ Some i) × IsMarked words i bit

-- the ancestors of the tips are marked among any objects whose links these are
abbrev pub MarksAncestors : List ObjectId → List (ℕ × ℕ) → List ObjectId → List ℕ → Type 0
MarksAncestors ids links tips words = (objects : List Content) → AreLinks objects ids links → AreMarks objects ids tips words

-- steps on the way, which private functions cite

-- the first so many tips are marked with their own bits, and nothing else is
pub record AreTipsOf (count : ℕ) (ids tips : List ObjectId) (words : List ℕ) : Type 0 where
  pub only : (i bit : ℕ) → IsMarked words i bit → (id : ObjectId) × (slice_get ids i ≡ Some id) × (slice_get tips bit ≡ Some id)
  pub all : (bit : ℕ) (id : ObjectId) → bit < count → slice_get tips bit ≡ Some id → (i : ℕ) × (place ids id ≡ Some i) × IsMarked words i bit

-- a bit that is set at a place spreads along the links
pub data IsSpread (links : List (ℕ × ℕ)) (words : List ℕ) : ℕ → ℕ → Type 0 where
  Here : (i bit : ℕ) → IsMarked words i bit → IsSpread links words i bit
  Along : (i j bit : ℕ) → IsSpread links words i bit → Contains links (i, j) → IsSpread links words j bit

-- some bits have spread, and none that wasn't there is gone
pub record HasSpread (links : List (ℕ × ℕ)) (old new : List ℕ) : Type 0 where
  pub long : length new ≡ length old
  pub keeps : (i bit : ℕ) → IsMarked old i bit → IsMarked new i bit
  pub only : (i bit : ℕ) → IsMarked new i bit → IsSpread links old i bit

-- bits have spread along all of these links
abbrev pub IsClosed : List (ℕ × ℕ) → List ℕ → Type 0
IsClosed links words = (i j bit : ℕ) → Contains links (i, j) → IsMarked words i bit → IsMarked words j bit

-- the places are among so many
abbrev pub AreWithin : ℕ → List (ℕ × ℕ) → Type 0
AreWithin count links = (i j : ℕ) → Contains links (i, j) → (i < count) × (j < count)
