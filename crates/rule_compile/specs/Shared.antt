-- The members of groups, as the code keeps them, each group's once. It serves private functions alone.
use Rattle.std.specs.Prelude.{ℕ, List, ◌≡◌, Option, Some, None}
use Rattle.std.specs.FinMap as named
use Rattle.base_types.specs.Names.{ByName}
use Rattle.conf_groups.specs.declared.placed.Placed.{Placed}
use Rattle.conf_groups.specs.declared.placed.Scope.{Scope}
use Rattle.conf_groups.specs.declared.placed.Scope.TheVariants.{Main, Sub}
use Rattle.rule_compile.specs.Words.{members_of}
use Rattle.rule_compile.specs.declared.shared.SharedMembers.{SharedMembers}

-- the groups of a subconf that are kept
abbrev pub groups_in : Option (ByName (List (List ℕ))) → ByName (List (List ℕ))
groups_in None = named.empty
groups_in (Some groups) = groups

abbrev pub in_groups : Option (ByName (List (List ℕ))) → List ℕ → Option (List (List ℕ))
in_groups None group = None
in_groups (Some groups) group = named.get groups group

-- the members that are kept of a group for a scope
abbrev pub shared_of : SharedMembers → Scope → List ℕ → Option (List (List ℕ))
shared_of shared Main group = named.get shared.main group
shared_of shared (Sub name) group = in_groups (named.get shared.subs name) group

-- members that are kept are those by all lines
abbrev pub AreShared : SharedMembers → List Placed → Type 0
AreShared shared placed = (scope : Scope) (group : List ℕ) (members : List (List ℕ)) → shared_of shared scope group ≡ Some members → members ≡ members_of placed scope group
