-- Commits in a list, and the links between them.
use Rattle.std.specs.Prelude.{◌≡◌, ◌⊎◌, ℕ, ◌<◌, List, length, Option, Some, slice_get}
use Rattle.std.specs.List.{Contains, position}
use Rattle.git_object.specs.Content.{Content}
use Rattle.git_object.specs.declared.object_id.ObjectId.{ObjectId}
use Rattle.ref_store.specs.Objects.{same_id}
use Rattle.ancestry.specs.Ancestors.{IsMerge, parents_at}

-- where a name stands in a list
abbrev pub place : List ObjectId → ObjectId → Option ℕ
place ids id = position (same_id id) ids

-- the commit at the second place is a parent of the one at the first
abbrev pub IsLink : List Content → List ObjectId → ℕ → ℕ → Type 0
IsLink objects ids i j = (from to : ObjectId) × (slice_get ids i ≡ Some from) × (slice_get ids j ≡ Some to) × Contains (parents_at objects from) to

-- links from child to parent, by their places: all those of the first so many commits, whose parents are in
-- the list too
pub record AreLinksOf (count : ℕ) (objects : List Content) (ids : List ObjectId) (links : List (ℕ × ℕ)) : Type 0 where
  pub only : (i j : ℕ) → Contains links (i, j) → IsLink objects ids i j
  pub all : (i : ℕ) (from to : ObjectId) → i < count → slice_get ids i ≡ Some from → Contains (parents_at objects from) to → (j : ℕ) × (place ids to ≡ Some j) × Contains links (i, j)

-- all links of all commits in the list, and each parent is in the list
abbrev pub AreLinks : List Content → List ObjectId → List (ℕ × ℕ) → Type 0
AreLinks objects ids links = AreLinksOf (length ids) objects ids links

-- the places of the merges among the first so many commits
pub record AreMergesOf (count : ℕ) (objects : List Content) (ids : List ObjectId) (merges : List ℕ) : Type 0 where
  pub only : (i : ℕ) → Contains merges i → (id : ObjectId) × (place ids id ≡ Some i) × IsMerge objects id
  pub all : (i : ℕ) (id : ObjectId) → i < count → place ids id ≡ Some i → IsMerge objects id → Contains merges i

-- the places of all merges in the list
abbrev pub AreMerges : List Content → List ObjectId → List ℕ → Type 0
AreMerges objects ids merges = AreMergesOf (length ids) objects ids merges

-- steps on the way, which private functions cite

-- what adding the links from a place to these parents leaves
pub record AddsParents (ids : List ObjectId) (at : ℕ) (parents : List ObjectId) (old new : List (ℕ × ℕ)) : Type 0 where
  pub keeps : (link : ℕ × ℕ) → Contains old link → Contains new link
  pub only : (i j : ℕ) → Contains new (i, j) → Contains old (i, j) ⊎ ((i ≡ at) × ((to : ObjectId) × (place ids to ≡ Some j) × Contains parents to))
  pub all : (to : ObjectId) → Contains parents to → (j : ℕ) × (place ids to ≡ Some j) × Contains new (at, j)
