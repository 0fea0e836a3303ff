-- Values by their names, as a table lists them.
use Rattle.std.specs.Prelude.{ℕ, List, [], ◌∷◌}
use Rattle.std.specs.FinMap.{from_entries, insert}
use Rattle.base_types.specs.Names.{ByName}

-- the map of names with their values; of two with one name the first counts
abbrev pub map_of : {X : Type 0} → List (List ℕ × X) → ByName X
map_of entries = from_entries entries

-- a map with all of them put in, one after the other
abbrev pub inserted_all : {X : Type 0} → ByName X → List (List ℕ × X) → ByName X
inserted_all m [] = m
inserted_all m (e ∷ es) = inserted_all (insert m e.0 e.1) es
