-- How many commands are for a ref, as far as it is kept.
use Rattle.std.specs.Prelude.{◌≡◌, ℕ, zero, suc, Bool, false, nat_lt, List, Option, None, Some}
use Rattle.std.specs.List.{count_by}
use Rattle.std.specs.Option.{option_map_or}
use Rattle.std.specs.FinMap.{get}
use Rattle.base_types.specs.Names.{ByName}
use Rattle.ref_store.specs.Refs.{Name}
use Rattle.ref_store.specs.declared.command.Command.{Command}
use Rattle.hub_history.specs.Push.{is_named_twice}
use Rattle.hub_history.specs.State.{same_name}

-- what is kept of a ref by how many commands are for it: whether there are several
abbrev pub kept_of : ℕ → Option Bool
kept_of zero = None
kept_of (suc n) = Some (nat_lt 0 n)

-- the map has this of each name
abbrev pub Counts : ByName Bool → List Command → Type 0
Counts names commands = (name : Name) → get names name ≡ kept_of (count_by (λ (c : Command). same_name name c.name) commands)

-- the map has true of each ref that several commands are for, and of no other
abbrev pub TellsOfSeveral : ByName Bool → List Command → Type 0
TellsOfSeveral names commands = (name : Name) → option_map_or (λ (several : Bool). several) (get names name) false ≡ is_named_twice commands name
