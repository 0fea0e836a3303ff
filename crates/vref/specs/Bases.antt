-- What is kept of the trees that were compared.
use Rattle.std.specs.Prelude.{◌≡◌, List, Some}
use Rattle.std.specs.Map.{lookup}
use Rattle.git_object.specs.Content.{Content}
use Rattle.git_object.specs.declared.object_id.ObjectId.{ObjectId}
use Rattle.ref_store.specs.Objects.{first_named, same_id}
use Rattle.vref.specs.Rows.{entries_in}
use Rattle.vref.specs.Differences.{AreDifferences}
use Rattle.vref.specs.declared.differences.Difference.{Difference}
use Rattle.vref.specs.declared.bases.Placed.{Placed}
use Rattle.vref.specs.declared.bases.Bases.{Bases}

-- where one tree differs from another
abbrev pub DifferAt : List Content → ObjectId → ObjectId → List Difference → Type 0
DifferAt objects old new list = AreDifferences (entries_in (first_named objects old)) (entries_in (first_named objects new)) list

-- each tree that is kept differs from its base where its list says
abbrev pub AreBased : List Content → Bases → Type 0
AreBased objects bases = (id : ObjectId) (placed : Placed) → lookup (same_id id) bases.trees.entries ≡ Some placed → DifferAt objects placed.base id placed.list.items
