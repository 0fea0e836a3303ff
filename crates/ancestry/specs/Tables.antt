-- Tables of values by name, and lists of such tables.
use Rattle.std.specs.Prelude.{◌≡◌, List, [], ◌∷◌, Option, None, Some, ◌⊎◌, if◌then◌else◌}
use Rattle.std.specs.Option.{option_or}
use Rattle.std.specs.List.{Contains}
use Rattle.std.specs.Map.{lookup}
use Rattle.git_object.specs.declared.object_id.ObjectId.{ObjectId}
use Rattle.ref_store.specs.Objects.{same_id}

-- a value for each of some names
abbrev pub Entries : Type 0 → Type 0
Entries V = List (ObjectId × V)

-- the table has this value for the name
abbrev pub Has : {V : Type 0} → Entries V → ObjectId → V → Type 0
Has table id value = lookup (same_id id) table ≡ Some value

-- one of the tables has this value for the name
abbrev pub HasOne : {V : Type 0} → List (Entries V) → ObjectId → V → Type 0
HasOne {V} tables id value = (table : Entries V) × Contains tables table × Has table id value

-- the value for the name in the first of the tables that has one
abbrev pub first_in : {V : Type 0} → List (Entries V) → ObjectId → Option V
first_in [] id = None
first_in (table ∷ tables) id = option_or (lookup (same_id id) table) (first_in tables id)

-- a value is put in, in place of the one that was there
abbrev pub Puts : {V : Type 0} → Entries V → Entries V → ObjectId → V → Type 0
Puts old new id value = (other : ObjectId) → lookup (same_id other) new ≡ (if same_id id other then Some value else lookup (same_id other) old)

-- whatever the table has, one of two others has
abbrev pub IsOfTwo : {V : Type 0} → Entries V → Entries V → Entries V → Type 0
IsOfTwo {V} one other table = (id : ObjectId) (value : V) → Has table id value → Has one id value ⊎ Has other id value

-- whatever the table has, one of the tables or another has
abbrev pub IsOfAll : {V : Type 0} → List (Entries V) → Entries V → Entries V → Type 0
IsOfAll {V} tables other table = (id : ObjectId) (value : V) → Has table id value → HasOne tables id value ⊎ Has other id value

-- whatever the tables have, one of those before or another has
abbrev pub AreOf : {V : Type 0} → List (Entries V) → Entries V → List (Entries V) → Type 0
AreOf {V} before other tables = (id : ObjectId) (value : V) → HasOne tables id value → HasOne before id value ⊎ Has other id value
