-- The entries in which two trees differ, by their names.
use Rattle.std.specs.Prelude.{◌≡◌, ◌⊎◌, ℕ, ◌<◌, ◌≤◌, List, ◌∷◌, ◌++◌, length, map, get_or, Option, None, Some}
use Rattle.std.specs.List.{All, Contains}
use Rattle.std.specs.List.Sorted.{IsStrictlySortedBy}
use Rattle.std.specs.Option.{option_map, option_or}
use Rattle.std.specs.Ordering.{nat_cmp}
use Rattle.std.specs.declared.cmp.Ordering.{Ordering}
use Rattle.std.specs.Cmp.Lexicographic.{slice_cmp}
use Rattle.std.specs.BTreeMap.{BTreeMap, IsOrdered, get}
use Rattle.std.specs.Borrow.{Bor}
use Rattle.git_object.specs.Tree.{Entry, entry_of}
use Rattle.git_object.specs.declared.tree.TreeEntry.{TreeEntry}
use Rattle.vref.specs.Rows.{Name, entry_named}
use Rattle.vref.specs.declared.differences.Difference.{Difference}
use Rattle.vref.specs.declared.differences.Sides.{Sides}
use Rattle.vref.specs.declared.differences.Step.{Step}
use Rattle.vref.specs.declared.differences.Step.TheVariants.{Done, Both, Old, New}

-- names in the order of their bytes, where they lie in memory
abbrev pub name_cmp : Bor Name → Bor Name → Ordering
name_cmp a b = slice_cmp nat_cmp a.now b.now

-- what sides have of either tree
abbrev pub old_of : Option Sides → Option Entry
old_of None = None
old_of (Some s) = option_map entry_of s.old

abbrev pub new_of : Option Sides → Option Entry
new_of None = None
new_of (Some s) = option_map entry_of s.new

-- a map finds what both trees have under each name
pub record FindsBoth (old new : List Entry) (names : BTreeMap (Bor Name) Sides) : Type 0 where
  pub old_is : (name : Bor Name) → old_of (get name_cmp names name) ≡ entry_named old name.now
  pub new_is : (name : Bor Name) → new_of (get name_cmp names name) ≡ entry_named new name.now
  pub filled : (name : Bor Name) → old_of (get name_cmp names name) ≡ None → new_of (get name_cmp names name) ≡ None → get name_cmp names name ≡ None
  pub ordered : IsOrdered name_cmp names

-- an entry of the new tree beside what sides have of the old one; nothing where they have one of the new tree
abbrev pub Joins : Option Sides → TreeEntry → Option Sides → Type 0
Joins sides entry None = ¬ (new_of sides ≡ None)
Joins sides entry (Some s) = (new_of sides ≡ None) × (old_of (Some s) ≡ old_of sides) × (new_of (Some s) ≡ Some (entry_of entry))

-- no two entries have one name
abbrev pub NamesOnce : List Entry → Type 0
NamesOnce entries = (front : List Entry) (e : Entry) (rest : List Entry) → entries ≡ front ++ e ∷ rest → entry_named front e.name ≡ None

-- what is left of each side once some entries that both have are taken out
pub record Parted (old new olds news common : List Entry) : Type 0 where
  pub old_is : (name : Name) → entry_named old name ≡ option_or (entry_named olds name) (entry_named common name)
  pub new_is : (name : Name) → entry_named new name ≡ option_or (entry_named news name) (entry_named common name)
  pub apart : (name : Name) → (entry_named common name ≡ None) ⊎ ((entry_named olds name ≡ None) × (entry_named news name ≡ None))

-- the same, of entries where they lie in memory
abbrev pub AreParted : List TreeEntry → List TreeEntry → List TreeEntry → List TreeEntry → Type 0
AreParted old new olds news = (common : List Entry) × Parted (map entry_of old) (map entry_of new) (map entry_of olds) (map entry_of news) common

-- which side the pass goes on in
abbrev pub TellsOfStep : List TreeEntry → ℕ → List TreeEntry → ℕ → Step → Type 0
TellsOfStep old i new j Done = (length old ≤ i) × (length new ≤ j)
TellsOfStep old i new j Both = (i < length old) × (j < length new) × ((d e : TreeEntry) → entry_of (get_or old i d) ≡ entry_of (get_or new j e))
TellsOfStep old i new j Old = i < length old
TellsOfStep old i new j New = j < length new

-- what is under a name on either side, as contracts see it
abbrev pub old_entry : Difference → Option Entry
old_entry d = option_map entry_of d.old

abbrev pub new_entry : Difference → Option Entry
new_entry d = option_map entry_of d.new

abbrev pub name_of : Difference → Name
name_of d = d.name.now

-- the difference of a name, with what is on either side
abbrev pub difference_of : Bor Name × Sides → Difference
difference_of e = record { name = e.0; old = e.1.old; new = e.1.new }

-- of names with what is on either side, those whose sides differ
pub record AreSifted (names : List (Bor Name × Sides)) (list : List Difference) : Type 0 where
  pub each : All (λ d. (e : Bor Name × Sides) × Contains names e × (d ≡ difference_of e) × ¬ (old_entry d ≡ new_entry d)) list
  pub all : (e : Bor Name × Sides) → Contains names e → (old_of (Some e.1) ≡ new_of (Some e.1)) ⊎ Contains list (difference_of e)
  pub ascend : IsStrictlySortedBy name_cmp (map (λ e. e.0) names) → IsStrictlySortedBy (slice_cmp nat_cmp) (map name_of list)

module _ (old new : List Entry) where
  -- a name at which these entries differ, with what is there on either side
  pub record IsDifference (d : Difference) : Type 0 where
    pub old_is : old_entry d ≡ entry_named old d.name.now
    pub new_is : new_entry d ≡ entry_named new d.name.now
    pub differ : ¬ (old_entry d ≡ new_entry d)

  -- the name is in the list
  abbrev pub IsNamed : List Difference → Name → Type 0
  IsNamed list name = (d : Difference) × Contains list d × (d.name.now ≡ name)

  -- there is nothing else, and each name at which the entries differ, once, in the order of their bytes
  pub record AreDifferences (list : List Difference) : Type 0 where
    pub ascend : IsStrictlySortedBy (slice_cmp nat_cmp) (map name_of list)
    pub each : All IsDifference list
    pub all : (name : Name) → ¬ (entry_named old name ≡ entry_named new name) → IsNamed list name
