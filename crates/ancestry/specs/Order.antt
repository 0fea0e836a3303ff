-- Ids in the order of their bytes.
use Rattle.std.specs.Prelude.{◌≡◌, false, Bool, if◌then◌else◌, List, [], ◌∷◌, Option, None, Some}
use Rattle.std.specs.Option.{option_map_or}
use Rattle.std.specs.Ordering.{nat_cmp, is_lt}
use Rattle.std.specs.Cmp.Lexicographic.{slice_cmp}
use Rattle.git_object.specs.declared.object_id.ObjectId.{ObjectId}

-- the first comes before the second
abbrev pub is_below : ObjectId → ObjectId → Bool
is_below a b = is_lt (slice_cmp nat_cmp a.bytes b.bytes)

-- the one that comes first
abbrev pub lesser : ObjectId → ObjectId → ObjectId
lesser a b = if is_below a b then a else b

-- the least of some ids
abbrev pub least : List ObjectId → Option ObjectId
least [] = None
least (id ∷ ids) = Some (option_map_or (lesser id) (least ids) id)

-- it is the least id of which this holds, or there is none
abbrev pub IsLeast : (ObjectId → Type 0) → Option ObjectId → Type 0
IsLeast P None = (id : ObjectId) → ¬ P id
IsLeast P (Some least) = P least × ((id : ObjectId) → P id → is_below id least ≡ false)
