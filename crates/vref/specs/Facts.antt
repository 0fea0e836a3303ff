-- What a rule may ask of a change of a ref.
use Rattle.std.specs.Prelude.{◌≡◌, ◌↔◌, ℕ, ◌&&◌, ◌||◌, not, nat_eq, Bool, false, IsTrue, if◌then◌else◌, List, codes}
use Rattle.std.specs.List.{starts_with}
use Rattle.std.specs.Option.{option_map_or}
use Rattle.git_object.specs.Content.{Content}
use Rattle.git_object.specs.declared.object_id.ObjectId.{ObjectId}
use Rattle.git_object.specs.declared.kind.Kind.TheVariants.{Commit}
use Rattle.ref_store.specs.Objects.{first_named, same_id}
use Rattle.ref_store.specs.Refs.{zero_id}
use Rattle.ancestry.specs.Walk.{same_kind}
use Rattle.ancestry.specs.Ancestors.{BringsMerge, IsAncestor}
use Rattle.ancestry.specs.declared.facts.Change.{Change}
use Rattle.ancestry.specs.declared.facts.Change.TheVariants.{Create, Delete, Update}
use Rattle.ancestry.specs.declared.facts.Facts.{Facts}

-- zero stands for no value
abbrev pub is_zero : ObjectId → Bool
is_zero id = same_id id zero_id

-- a create where there was no value, a delete where there will be none, and else an update
abbrev pub change_of : ObjectId → ObjectId → Change
change_of old new = if is_zero old then Create else if is_zero new then Delete else Update

-- the object of this name is a commit
abbrev pub is_commit : List Content → ObjectId → Bool
is_commit objects id = option_map_or (λ o. same_kind Commit o.kind) (first_named objects id) false

-- it is an update, and both values are commits
abbrev pub is_between_commits : List Content → ObjectId → ObjectId → Bool
is_between_commits objects old new = not (is_zero old) && not (is_zero new) && is_commit objects old && is_commit objects new

-- what is asked of a change: its two commits, and of any other change a pair that asks nothing
abbrev pub pair_of : List Content → ObjectId → ObjectId → ObjectId × ObjectId
pair_of objects old new = if is_between_commits objects old new then (old, new) else (zero_id, zero_id)

-- the facts of a change of a ref of this name
pub record AreFacts (objects : List Content) (name : List ℕ) (old new : ObjectId) (facts : Facts) : Type 0 where
  pub change : facts.change ≡ change_of old new
  -- it is a tag
  pub tag : facts.tag ≡ starts_with nat_eq name (codes "refs/tags/")
  -- each value that isn't zero is a commit
  pub commits : facts.commits ≡ ((is_zero old || is_commit objects old) && (is_zero new || is_commit objects new))
  -- an update between two commits, of which the old is an ancestor of the new
  pub forward : IsTrue facts.forward ↔ (IsTrue (is_between_commits objects old new) × IsAncestor objects old new)
  -- an update between two commits that brings a merge
  pub merge : IsTrue facts.merge ↔ (IsTrue (is_between_commits objects old new) × BringsMerge objects old new)
