-- What a repository stores, and what adding a pack's objects and moving a ref tell and leave.
use Rattle.std.specs.Prelude.{◌≡◌, ◌+◌, ◌<◌, ◌≤◌, length, List, ◌++◌, None}
use Rattle.git_object.specs.Content.{Content}
use Rattle.git_object.specs.declared.object_id.ObjectId.{ObjectId}
use Rattle.ref_store.specs.declared.repo.Compared as compared
use Rattle.ref_store.specs.declared.repo.Compared.TheVariants as beside
use Rattle.ref_store.specs.declared.repo.Added as added
use Rattle.ref_store.specs.declared.repo.Added.TheVariants as told
use Rattle.ref_store.specs.declared.repo.Applied as applied
use Rattle.ref_store.specs.declared.repo.Applied.TheVariants as moving
use Rattle.ref_store.specs.Refs.{Name, Refs, zero_id, value, moved, HasRefNames, HasNoZero, HasRefsApart, HasNoneAtOdds, IsLeastAtOdds}
use Rattle.ref_store.specs.Objects.{with_pack, HasNamesOnce, HasNoCollision, IsFirstCollision}

-- objects, in the order in which they came, and refs
pub record Store : Type 0 where
  pub objects : List Content
  pub refs : Refs

-- what a repository keeps: no two objects of one name, only names that a ref may have, no ref at zero, and no
-- ref a directory of another
pub record IsSound (store : Store) : Type 0 where
  pub names : HasNamesOnce store.objects
  pub refs : HasRefNames store.refs
  pub values : HasNoZero store.refs
  pub apart : HasRefsApart store.refs

-- what is told of a pack beside the objects that are there: where two objects of one name differ that is
-- told; else, where there would be more than 4,294,967,295, how many there would be; else which ones to add
abbrev pub TellsOfComparing : List Content → List Content → compared.Compared → Type 0
TellsOfComparing objects pack (beside.Fresh fresh) = HasNoCollision (objects ++ pack) × (with_pack objects pack ≡ objects ++ fresh.objects) × HasNamesOnce (objects ++ fresh.objects) × (length objects + length fresh.objects ≤ 4294967295)
TellsOfComparing objects pack (beside.Collision id kept given) = IsFirstCollision (objects ++ pack) id kept given
TellsOfComparing objects pack (beside.Full count) = HasNoCollision (objects ++ pack) × (count ≡ length (with_pack objects pack)) × (4294967295 < count)
TellsOfComparing objects pack beside.NoMemory = Unit {0}

-- no segments are prepared
abbrev pub IsUnprepared : compared.Compared → Type 0
IsUnprepared (beside.Fresh fresh) = fresh.before ≡ None
IsUnprepared (beside.Collision id kept given) = Unit {0}
IsUnprepared (beside.Full count) = Unit {0}
IsUnprepared beside.NoMemory = Unit {0}

-- what is told of adding a pack's objects: where two objects of one name differ that is told; else, where
-- there would be more than 4,294,967,295, how many there would be
abbrev pub TellsOfAdding : List Content → List Content → added.Added → Type 0
TellsOfAdding objects pack told.Added = HasNoCollision (objects ++ pack) × (length (with_pack objects pack) ≤ 4294967295)
TellsOfAdding objects pack (told.Collision id kept given) = IsFirstCollision (objects ++ pack) id kept given
TellsOfAdding objects pack (told.Full count) = HasNoCollision (objects ++ pack) × (count ≡ length (with_pack objects pack)) × (4294967295 < count)
TellsOfAdding objects pack told.NoMemory = Unit {0}

-- the repository afterwards: with the pack's objects, or as it was
abbrev pub left_by : Store → List Content → added.Added → Store
left_by store pack told.Added = record store { objects = with_pack store.objects pack }
left_by store pack _ = store

-- what is told of moving a ref: another value than the one that was thought of, or, of a create, the least
-- ref that the name can't stand beside
abbrev pub TellsOfMove : Refs → Name → ObjectId → applied.Applied → Type 0
TellsOfMove refs name old moving.Moved = (value refs name ≡ old) × (old ≡ zero_id → HasNoneAtOdds refs name)
TellsOfMove refs name old (moving.Stale is) = (is ≡ value refs name) × ¬ (is ≡ old)
TellsOfMove refs name old (moving.DirFile r) = (value refs name ≡ old) × (old ≡ zero_id) × IsLeastAtOdds refs name r
TellsOfMove refs name old moving.NoMemory = Unit {0}

-- the repository afterwards: with the ref at its new value, or as it was
abbrev pub moved_by : Store → Name → ObjectId → applied.Applied → Store
moved_by store name new moving.Moved = record store { refs = moved store.refs name new }
moved_by store name new _ = store
