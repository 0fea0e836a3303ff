-- What a fetch is sent.
use Rattle.std.specs.Prelude.{ℕ, Bool, not, ◌&&◌, List, filter, None}
use Rattle.std.specs.List.{list_any}
use Rattle.git_object.specs.Content.{Content}
use Rattle.git_object.specs.Object.{object_name}
use Rattle.git_object.specs.declared.object_id.ObjectId.{ObjectId}
use Rattle.ref_store.specs.Objects.{same_id}
use Rattle.ancestry.specs.Walk.{met}
use Rattle.raw_pack.specs.Grammar.{spelled_pack}

-- A walk along links from one of these ids comes to this one. Walks of as many links as there are objects
-- come to all that any walk comes to.
abbrev pub is_reached : List Content → List ObjectId → ObjectId → Bool
is_reached objects roots id = list_any (λ root. list_any (λ want. same_id id want.0) (met objects root None)) roots

-- it is reached from a want and from no have
abbrev pub is_sent : List Content → List ObjectId → List ObjectId → Content → Bool
is_sent objects wants haves object = is_reached objects wants (object_name object) && not (is_reached objects haves (object_name object))

-- those objects, in the order in which they are stored
unfoldable pub sent : List Content → List ObjectId → List ObjectId → List Content
sent objects wants haves = filter (is_sent objects wants haves) objects

-- a raw pack of them, bare on the connection
unfoldable pub pack_bytes : List Content → List ObjectId → List ObjectId → List ℕ
pack_bytes objects wants haves = spelled_pack (sent objects wants haves)
