-- Objects of a pack that collide with others: that differ, and have one name.
use Rattle.std.specs.Prelude.{ℕ, Bool, ◌&&◌, not, nat_eq, List, [], ◌∷◌, ◌++◌, Option, None, Some, if◌then◌else◌}
use Rattle.std.specs.List.{list_any}
use Rattle.git_object.specs.Content.{Content}
use Rattle.git_object.specs.Object.{object_name}
use Rattle.git_object.specs.declared.kind.Kind.{Kind}
use Rattle.git_object.specs.declared.kind.Kind.TheVariants.{Commit, Tree, Blob, Tag}
use Rattle.git_object.specs.declared.object_id.ObjectId.{ObjectId}
use Rattle.ref_store.specs.Objects.{same_id}
use Rattle.hub_history.specs.State.{same_name}

abbrev pub kind_number : Kind → ℕ
kind_number Commit = 1
kind_number Tree = 2
kind_number Blob = 3
kind_number Tag = 4

abbrev pub same_object : Content → Content → Bool
same_object a b = nat_eq (kind_number a.kind) (kind_number b.kind) && same_name a.body b.body

-- two objects that differ, of one name
abbrev pub collides : Content → Content → Bool
collides new old = same_id (object_name new) (object_name old) && not (same_object new old)

-- the name of the first object of a pack that differs from one of its name before it: in the repository, or
-- earlier in the pack
abbrev pub collision : List Content → List Content → Option ObjectId
collision before [] = None
collision before (o ∷ os) = if list_any (collides o) before then Some (object_name o) else collision (before ++ o ∷ []) os
