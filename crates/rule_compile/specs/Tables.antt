-- Tables by texts, as the code keeps them.
use Rattle.std.specs.Prelude.{ℕ, List, ◌≡◌, Bool, Some}
use Rattle.std.specs.FinMap as named
use Rattle.base_types.specs.Names.{ByName}
use Rattle.conf_groups.specs.Groups.{holds}

-- what a text leads to has that text
abbrev pub AreNamed : ByName (List ℕ) → Type 0
AreNamed table = (text found : List ℕ) → named.get table text ≡ Some found → found ≡ text

-- the names tell which items a list has
abbrev pub Tells : ByName Bool → List (List ℕ) → Type 0
Tells names items = (word : List ℕ) → named.contains_key names word ≡ holds items word
