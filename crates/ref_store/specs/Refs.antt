-- Refs, and which names can't stand beside one another.
use Rattle.std.specs.Prelude.{◌≡◌, ℕ, Bool, true, false, ◌||◌, nat_eq, List, [], ◌∷◌, ◌++◌, ◌⊎◌, Option, None, Some, IsSome, replicate, if◌then◌else◌}
use Rattle.std.specs.List.{find, starts_with}
use Rattle.std.specs.FinMap.{get, insert, remove, keys}
use Rattle.std.specs.Option.{unwrap_or}
use Rattle.std.specs.Ordering.{nat_cmp, is_gt}
use Rattle.std.specs.Cmp.Lexicographic.{slice_cmp}
use Rattle.base_types.specs.Names.{ByName}
use Rattle.git_object.specs.declared.object_id.ObjectId.{ObjectId}
use Rattle.ref_store.specs.Objects.{same_id}
use Rattle.ref_store.specs.RefName.{is_ref_name}

abbrev pub Name : Type 0
Name = List ℕ

abbrev pub Refs : Type 0
Refs = ByName ObjectId

-- the id that stands for no object
abbrev pub zero_id : ObjectId
zero_id = record { bytes = replicate 20 0 }

-- a ref's value, zero where it is absent
abbrev pub value : Refs → Name → ObjectId
value refs name = unwrap_or (get refs name) zero_id

-- a ref moved to a new value; zero deletes it
abbrev pub moved : Refs → Name → ObjectId → Refs
moved refs name new = if same_id new zero_id then remove refs name else insert refs name new

-- each ref has a name that a ref may have
abbrev pub HasRefNames : Refs → Type 0
HasRefNames refs = (q : Name) → IsSome (get refs q) → is_ref_name q ≡ true

-- no ref has the value zero, which stands for none
abbrev pub HasNoZero : Refs → Type 0
HasNoZero refs = (q : Name) (id : ObjectId) → get refs q ≡ Some id → ¬ (id ≡ zero_id)

-- in byte order
abbrev pub IsLe : Name → Name → Type 0
IsLe a b = is_gt (slice_cmp nat_cmp a b) ≡ false

-- the least name that is not before this one, or none
abbrev pub IsLeastFrom : Refs → Name → Option Name → Type 0
IsLeastFrom refs from None = (q : Name) → IsLe from q → get refs q ≡ None
IsLeastFrom refs from (Some n) = IsSome (get refs n) × IsLe from n × ((q : Name) → IsLe from q → IsSome (get refs q) → IsLe n q)

-- a name stands below another: it goes on behind it with a slash
abbrev pub IsBelow : Name → Name → Type 0
IsBelow name dir = (rest : Name) × (name ≡ dir ++ 47 ∷ rest)

-- the greatest name that is not behind this one, or none
abbrev pub IsGreatestTo : Refs → Name → Option Name → Type 0
IsGreatestTo refs to None = (q : Name) → IsLe q to → get refs q ≡ None
IsGreatestTo refs to (Some n) = IsSome (get refs n) × IsLe n to × ((q : Name) → IsLe q to → IsSome (get refs q) → IsLe q n)

-- one is a directory of the other
abbrev pub AreAtOdds : Name → Name → Type 0
AreAtOdds a b = IsBelow a b ⊎ IsBelow b a

-- the least ref, in byte order, that can't stand beside the name
pub record IsLeastAtOdds (refs : Refs) (name r : Name) : Type 0 where
  pub there : IsSome (get refs r)
  pub at_odds : AreAtOdds r name
  pub least : (q : Name) → IsSome (get refs q) → AreAtOdds q name → IsLe r q

-- each ref can stand beside the name
abbrev pub HasNoneAtOdds : Refs → Name → Type 0
HasNoneAtOdds refs name = (q : Name) → IsSome (get refs q) → ¬ AreAtOdds q name

-- no ref is a directory of another
abbrev pub HasRefsApart : Refs → Type 0
HasRefsApart refs = (name : Name) → IsSome (get refs name) → HasNoneAtOdds refs name

abbrev pub TellsOfOdds : Refs → Name → Option Name → Type 0
TellsOfOdds refs name None = HasNoneAtOdds refs name
TellsOfOdds refs name (Some r) = IsLeastAtOdds refs name r

-- the same as tests: the first of the refs, in byte order, that can't stand beside the name
abbrev pub is_below : Name → Name → Bool
is_below name dir = starts_with nat_eq name (dir ++ 47 ∷ [])

abbrev pub are_at_odds : Name → Name → Bool
are_at_odds a b = is_below a b || is_below b a

abbrev pub first_at_odds : Refs → Name → Option Name
first_at_odds refs name = find (λ q. are_at_odds q name) (keys refs)
