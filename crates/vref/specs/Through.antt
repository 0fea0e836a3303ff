-- Where two trees differ, by where each differs from a third.
use Rattle.std.specs.Prelude.{◌≡◌, Option, None, Some}
use Rattle.std.specs.BTreeMap.{BTreeMap, IsOrdered, get}
use Rattle.std.specs.Borrow.{Bor}
use Rattle.git_object.specs.Tree.{Entry}
use Rattle.vref.specs.Rows.{Name}
use Rattle.vref.specs.Differences.{name_cmp, new_of, old_entry, old_of}
use Rattle.vref.specs.declared.differences.Difference.{Difference}
use Rattle.vref.specs.declared.differences.Sides.{Sides}

-- a map has what is on either side under some names; under each other name both sides have the same
pub record HasSides (old new : Name → Option Entry) (names : BTreeMap (Bor Name) Sides) : Type 0 where
  pub old_is : (name : Bor Name) (sides : Sides) → get name_cmp names name ≡ Some sides → old_of (Some sides) ≡ old name.now
  pub new_is : (name : Bor Name) (sides : Sides) → get name_cmp names name ≡ Some sides → new_of (Some sides) ≡ new name.now
  pub alike : (name : Bor Name) → get name_cmp names name ≡ None → old name.now ≡ new name.now
  pub ordered : IsOrdered name_cmp names

-- what was there first under the name of a difference, by what is known of the name and by the difference
abbrev pub first_entry : Option Sides → Difference → Option Entry
first_entry None d = old_entry d
first_entry (Some sides) d = old_of (Some sides)

-- the same difference the other way round
abbrev pub turned : Difference → Difference
turned d = record { name = d.name; old = d.new; new = d.old }
