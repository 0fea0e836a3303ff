-- The objects of a repository in segments, and how adding joins them.
use Rattle.std.specs.Prelude.{◌≡◌, ℕ, ◌*◌, ◌<◌, ◌≤◌, nat_lt, List, [], ◌∷◌, ◌++◌, length, if◌then◌else◌}
use Rattle.git_object.specs.Content.{Content}

-- the objects of all segments, the oldest segment first
abbrev pub all_of : List (List Content) → List Content
all_of [] = []
all_of (s ∷ ss) = s ++ all_of ss

-- a segment before others: where there is one other, and the segment has fewer than twice as many objects as
-- that, the two are joined
abbrev pub before : List Content → List (List Content) → List (List Content)
before s (last ∷ []) = if nat_lt (length s) (2 * length last) then (s ++ last) ∷ [] else s ∷ last ∷ []
before s more = s ∷ more

-- a last segment behind others, from the newest back
abbrev pub joined : List (List Content) → List Content → List (List Content)
joined [] last = last ∷ []
joined (s ∷ ss) last = before s (joined ss last)

-- the segments with more objects: as they are where there are none
abbrev pub with_fresh : List (List Content) → List Content → List (List Content)
with_fresh segments [] = segments
with_fresh segments (o ∷ os) = joined segments (o ∷ os)

-- none is empty, and each has at least twice as many objects as the next
abbrev pub AreHalving : List (List Content) → Type 0
AreHalving [] = Unit {0}
AreHalving (s ∷ []) = 0 < length s
AreHalving (s ∷ t ∷ ss) = (2 * length t ≤ length s) × AreHalving (t ∷ ss)

-- what a list of segments keeps, beside its number of objects
pub record AreSegments (segments : List (List Content)) (count : ℕ) : Type 0 where
  pub halving : AreHalving segments
  pub count_is : count ≡ length (all_of segments)
  pub few : count ≤ 4294967295
