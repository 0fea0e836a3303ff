-- The tree that an id stands for.
use Rattle.std.specs.Prelude.{ℕ, if◌then◌else◌, List, Option, None, Some}
use Rattle.std.specs.Option.{option_map, option_map_or}
use Rattle.git_object.specs.Content.{Content}
use Rattle.git_object.specs.Commit.{tree_line}
use Rattle.git_object.specs.declared.object_id.ObjectId.{ObjectId}
use Rattle.git_object.specs.declared.kind.Kind.{Kind}
use Rattle.git_object.specs.declared.kind.Kind.TheVariants.{Commit, Tree, Blob, Tag}
use Rattle.ref_store.specs.Objects.{first_named}
use Rattle.ancestry.specs.Tags.{peel}
use Rattle.vref.specs.Facts.{is_zero}

-- a commit's tree, and a tree itself; a blob has none, nor has what still is a tag
abbrev pub tree_in : Kind → List ℕ → ObjectId → Option ObjectId
tree_in Commit body id = option_map (λ tree. tree.0) (tree_line body)
tree_in Tree body id = Some id
tree_in Blob body id = None
tree_in Tag body id = None

-- a commit stands for its tree, a tree for itself, a tag for what it names in the end; zero and anything else
-- stand for the empty tree, which is none
abbrev pub root_of : List Content → ObjectId → Option ObjectId
root_of objects id =
    if is_zero id then None
    else option_map_or (λ o. tree_in o.kind o.body (peel objects id)) (first_named objects (peel objects id)) None
