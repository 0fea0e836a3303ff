-- Who holds which role: a finite set of entries.
use Rattle.std.specs.Prelude.{◌≡◌, ℕ, not, List, [], ◌∷◌, ◌++◌, filter, Option}
use Rattle.std.specs.declared.cmp.Ordering.{Ordering}
use Rattle.std.specs.declared.cmp.Ordering.TheVariants.{Less}
use Rattle.std.specs.Ordering.{nat_cmp, ordering_then, is_lt, is_eq, is_gt}
use Rattle.std.specs.Cmp.Lexicographic.{slice_cmp}
use Rattle.wild_perms.specs.declared.role.RoleEntry.{RoleEntry}

-- by role and then by user, in byte order
abbrev pub entry_cmp : RoleEntry → RoleEntry → Ordering
entry_cmp a b = ordering_then (slice_cmp nat_cmp a.role b.role) (slice_cmp nat_cmp a.user b.user)

-- A set of entries is the list of them in order, each once.
abbrev pub AllAbove : RoleEntry → List RoleEntry → Type 0
AllAbove entry [] = Unit {0}
AllAbove entry (e ∷ es) = (entry_cmp entry e ≡ Less) × AllAbove entry es

abbrev pub IsRoleSet : List RoleEntry → Type 0
IsRoleSet [] = Unit {0}
IsRoleSet (e ∷ es) = AllAbove e es × IsRoleSet es

-- the set with an entry, and without one
abbrev pub with_entry : List RoleEntry → RoleEntry → List RoleEntry
with_entry entries entry = filter (λ e. is_lt (entry_cmp e entry)) entries ++ entry ∷ filter (λ e. is_gt (entry_cmp e entry)) entries

abbrev pub without_entry : List RoleEntry → RoleEntry → List RoleEntry
without_entry entries entry = filter (λ e. not (is_eq (entry_cmp e entry))) entries

-- who created a repository, if anybody did, and who holds which role in it
pub record WildView : Type 0 where
  pub creator : Option (List ℕ)
  pub roles : List RoleEntry
