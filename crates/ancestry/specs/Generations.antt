-- Generations of commits: Git's topological levels, but counted from zero.
use Rattle.std.specs.Prelude.{◌≡◌, ℕ, ◌+◌, ◌<◌, ◌≤◌, nat_lt, Bool, true, false, ◌||◌, if◌then◌else◌, List, [], length, ◌⊎◌, Option, IsSome}
use Rattle.std.specs.Option.{option_map_or}
use Rattle.std.specs.List.{Contains, list_any}
use Rattle.git_object.specs.Content.{Content}
use Rattle.git_object.specs.declared.object_id.ObjectId.{ObjectId}
use Rattle.ref_store.specs.Objects.{first_named, same_id}
use Rattle.ancestry.specs.declared.known.Known.{Known}
use Rattle.ancestry.specs.Ancestors.{parents_at, IsAncestor, IsLine}
use Rattle.ancestry.specs.Tables.{first_in}

-- so many commits are on the longest line of parents that leads on from this one, and whatever such a line
-- leads to is there
pub record HasGeneration (objects : List Content) (id : ObjectId) (generation : ℕ) : Type 0 where
  pub there : (line : List ObjectId) (to : ObjectId) → IsLine objects id line to → IsSome (first_named objects to)
  pub longest : (line : List ObjectId) × (to : ObjectId) × IsLine objects id line to × (length line ≡ generation)
  pub most : (line : List ObjectId) (to : ObjectId) → IsLine objects id line to → length line ≤ generation

-- one more than the greatest generation of these, and zero where there are none
pub record IsAfter (objects : List Content) (parents : List ObjectId) (generation : ℕ) : Type 0 where
  pub each : (id : ObjectId) → Contains parents id → (n : ℕ) × HasGeneration objects id n × (n < generation)
  pub least : (generation ≡ 0) ⊎ ((id : ObjectId) × (n : ℕ) × Contains parents id × HasGeneration objects id n × (generation ≡ n + 1))

-- the generation that is known of an object
abbrev pub generation_in : Known → ObjectId → Option ℕ
generation_in known id = first_in known.whole id

-- steps on the way, which private functions cite

-- a generation is known of it, and it is lower than the least
abbrev pub is_low : Known → ℕ → ObjectId → Bool
is_low known least id = option_map_or (λ generation. nat_lt generation least) (generation_in known id) false

-- the parents, but of what is low, or is past, none
abbrev pub parents_above : List Content → Known → ℕ → List ObjectId → ObjectId → List ObjectId
parents_above objects known least past id = if is_low known least id || list_any (same_id id) past then [] else parents_at objects id

-- from nothing of which a lower generation is known a line of parents leads to the commit
abbrev pub IsFloor : List Content → Known → ObjectId → ℕ → Type 0
IsFloor objects known old floor = (id : ObjectId) → is_low known floor id ≡ true → ¬ IsAncestor objects old id

-- it has a generation, which is no lower than the least
abbrev pub IsAtLeast : List Content → ℕ → ObjectId → Type 0
IsAtLeast objects least id = (generation : ℕ) × HasGeneration objects id generation × (least ≤ generation)

-- some line of parents that leads on from it has no fewer commits than this
abbrev pub IsHigh : List Content → ℕ → ObjectId → Type 0
IsHigh objects least id = (line : List ObjectId) × (to : ObjectId) × IsLine objects id line to × (least ≤ length line)

-- these are among the others, and high
abbrev pub AreHigh : List Content → ℕ → List ObjectId → List ObjectId → Type 0
AreHigh objects least among high = (id : ObjectId) → Contains high id → Contains among id × IsHigh objects least id

-- these are ancestors of the old commit, and no other is high
pub record ArePast (objects : List Content) (old : ObjectId) (least : ℕ) (past : List ObjectId) : Type 0 where
  pub are : (id : ObjectId) → Contains past id → IsAncestor objects id old
  pub all : (id : ObjectId) → IsAncestor objects id old → Contains past id ⊎ ¬ IsHigh objects least id

-- something low is among these, and not past
abbrev pub HasLow : Known → ℕ → List ObjectId → List ObjectId → Type 0
HasLow known least among past = (id : ObjectId) × Contains among id × (is_low known least id ≡ true) × ¬ Contains past id
