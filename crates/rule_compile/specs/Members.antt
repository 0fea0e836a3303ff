-- The members of a group, as the code keeps them. It serves private functions alone.
use Rattle.std.specs.Prelude.{ℕ, List, ◌≡◌, Vec}
use Rattle.std.specs.BTreeSet.{BTreeSet, contains_by}
use Rattle.std.specs.Ordering.{nat_cmp}
use Rattle.std.specs.Cmp.Lexicographic.{slice_cmp}
use Rattle.conf_groups.specs.Groups.{holds}

-- the set tells which items the list has
abbrev pub AreMembers : {A : Type 0} → BTreeSet (Vec ℕ A) → List (List ℕ) → Type 0
AreMembers names items = (word : List ℕ) → contains_by (λ name. slice_cmp nat_cmp word name.items) names ≡ holds items word
