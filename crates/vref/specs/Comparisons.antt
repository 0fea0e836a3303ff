-- What is kept of the pairs of trees that were compared.
use Rattle.std.specs.Prelude.{◌≡◌, ◌&&◌, Bool, List, Some, Vec}
use Rattle.std.specs.Global.{Global}
use Rattle.std.specs.Map.{lookup}
use Rattle.git_object.specs.Content.{Content}
use Rattle.ref_store.specs.Objects.{same_id}
use Rattle.vref.specs.Bases.{AreBased, DifferAt}
use Rattle.vref.specs.declared.differences.Difference.{Difference}
use Rattle.vref.specs.declared.comparisons.TreePair.{TreePair}
use Rattle.vref.specs.declared.comparisons.Comparisons.{Comparisons}

abbrev pub same_pair : TreePair → TreePair → Bool
same_pair a b = same_id a.old b.old && same_id a.new b.new

-- where the two trees differ
abbrev pub AreDifferencesOf : List Content → TreePair → List Difference → Type 0
AreDifferencesOf objects pair list = DifferAt objects pair.old pair.new list

-- each list that is kept is right
pub record IsSound (objects : List Content) (compared : Comparisons) : Type 0 where
  pub pairs : (pair : TreePair) (list : Vec Difference Global) → lookup (same_pair pair) compared.pairs.entries ≡ Some list → AreDifferencesOf objects pair list.items
  pub bases : AreBased objects compared.bases
