-- Whether all that is met from a root is there and of the kind wanted.
use Rattle.std.specs.Prelude.{◌≡◌, Bool, false, not, List, map, Option, None, Some, is_none}
use Rattle.std.specs.Option.{option_map_or}
use Rattle.std.specs.List.{filter}
use Rattle.git_object.specs.Content.{Content}
use Rattle.git_object.specs.declared.object_id.ObjectId.{ObjectId}
use Rattle.git_object.specs.declared.kind.Kind.{Kind}
use Rattle.ref_store.specs.Objects.{first_named}
use Rattle.ancestry.specs.declared.wholeness.Wholeness.{Wholeness}
use Rattle.ancestry.specs.declared.wholeness.Wholeness.TheVariants.{Whole, Missing, WrongKind, NoMemory}
use Rattle.ancestry.specs.Order.{least}
use Rattle.ancestry.specs.Walk.{Want, met, suits}

-- no object has the name
abbrev pub is_missing : List Content → Want → Bool
is_missing objects want = is_none (first_named objects want.0)

-- the object that stands first under the name isn't of the kind wanted
abbrev pub is_wrong : List Content → Want → Bool
is_wrong objects want = option_map_or (λ o. not (suits want.1 o.kind)) (first_named objects want.0) false

-- the least id that is met where no object has the name
abbrev pub missing : List Content → ObjectId → Option Kind → Option ObjectId
missing objects root kind = least (map (λ want. want.0) (filter (is_missing objects) (met objects root kind)))

-- the least id that is met where the object isn't of the kind wanted
abbrev pub wrong : List Content → ObjectId → Option Kind → Option ObjectId
wrong objects root kind = least (map (λ want. want.0) (filter (is_wrong objects) (met objects root kind)))

-- what is told: whole, where there is no such id; one that is missing before one of a wrong kind
abbrev pub TellsOfWholeness : List Content → ObjectId → Option Kind → Wholeness → Type 0
TellsOfWholeness objects root kind Whole = (missing objects root kind ≡ None) × (wrong objects root kind ≡ None)
TellsOfWholeness objects root kind (Missing id) = missing objects root kind ≡ Some id
TellsOfWholeness objects root kind (WrongKind id) = (missing objects root kind ≡ None) × (wrong objects root kind ≡ Some id)
TellsOfWholeness objects root kind NoMemory = Unit {0}
