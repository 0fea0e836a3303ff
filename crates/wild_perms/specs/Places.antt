-- Where an entry stands in a set of roles.
use Rattle.std.specs.Prelude.{◌≡◌, ℕ, ◌≤◌, ◌<◌, List, length, slice_index_or}
use Rattle.std.specs.declared.cmp.Ordering.TheVariants.{Less, Greater}
use Rattle.wild_perms.specs.Roles.{entry_cmp}
use Rattle.wild_perms.specs.declared.role.RoleEntry.{RoleEntry}

-- a place where an entry would stand: those before it are less, and those from it on are greater
pub record IsGap (entries : List RoleEntry) (entry : RoleEntry) (at : ℕ) : Type 0 where
  pub within : at ≤ length entries
  pub before : (k : ℕ) (d : RoleEntry) → k < at → entry_cmp (slice_index_or entries k d) entry ≡ Less
  pub behind : (k : ℕ) (d : RoleEntry) → at ≤ k → k < length entries → entry_cmp (slice_index_or entries k d) entry ≡ Greater
