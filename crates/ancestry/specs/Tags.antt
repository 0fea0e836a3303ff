-- What a tag stands for.
use Rattle.std.specs.Prelude.{ℕ, zero, suc, List, length, Option, None}
use Rattle.std.specs.Option.{option_map, option_map_or, unwrap_or}
use Rattle.git_object.specs.Content.{Content}
use Rattle.git_object.specs.Object.{target_in}
use Rattle.git_object.specs.declared.object_id.ObjectId.{ObjectId}
use Rattle.ref_store.specs.Objects.{first_named}

-- what the tag of this name names; nothing else names anything
abbrev pub named_by : List Content → ObjectId → Option ObjectId
named_by objects id = option_map_or (λ o. option_map (λ target. target.0) (target_in o.kind o.body)) (first_named objects id) None

-- at most so many steps from tags to what they name
abbrev pub peel_within : List Content → ℕ → ObjectId → ObjectId
peel_within objects zero id = id
peel_within objects (suc n) id = peel_within objects n (unwrap_or (named_by objects id) id)

-- at most as many as there are objects, so that it ends whatever the names are
abbrev pub peel : List Content → ObjectId → ObjectId
peel objects id = peel_within objects (length objects) id
