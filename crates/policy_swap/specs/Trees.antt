-- The entries of trees that were read. It serves private functions alone.
use Rattle.std.specs.Prelude.{◌≡◌, List, map, Option, Some}
use Rattle.std.specs.Map.{lookup}
use Rattle.git_object.specs.Content.{Content}
use Rattle.git_object.specs.Tree.{entry_of}
use Rattle.git_object.specs.declared.object_id.ObjectId.{ObjectId}
use Rattle.git_object.specs.declared.tree.TreeEntry.{TreeEntry}
use Rattle.ref_store.specs.Objects.{first_named, same_id}
use Rattle.vref.specs.Differences.{NamesOnce}
use Rattle.vref.specs.Rows.{entries_in}
use Rattle.policy_swap.specs.declared.trees.Trees.{Trees}

-- the entries of an object, where they lie in memory, each name once
pub record AreEntries (object : Option Content) (list : List TreeEntry) : Type 0 where
  pub same : map entry_of list ≡ entries_in object
  pub once : NamesOnce (entries_in object)

-- each list that is kept is that of its tree
abbrev pub AreRight : List Content → Trees → Type 0
AreRight objects trees = (id : ObjectId) (list : _) → lookup (same_id id) trees.lists.entries ≡ Some list → AreEntries (first_named objects id) list.items
