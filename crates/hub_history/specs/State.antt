-- The state of a hub: repositories by their names, and the conf in force.
use Rattle.std.specs.Prelude.{ℕ, Bool, nat_eq, ◌≤◌, length, List, [], ◌∷◌, Option, None, Some, codes}
use Rattle.std.specs.List.{sum_by, All}
use Rattle.std.specs.Option.{unwrap_or}
use Rattle.std.specs.FinMap.{empty, entries, get, insert, len}
use lib.Pointwise.{pointwise}
use Rattle.base_types.specs.Names.{ByName}
use Rattle.git_object.specs.Content.{Content}
use Rattle.git_object.specs.declared.object_id.ObjectId.{ObjectId}
use Rattle.ref_store.specs.Refs.{Name, Refs}
use Rattle.ref_store.specs.Store.{Store}
use Rattle.wild_perms.specs.Roles.{WildView}
use Rattle.wild_perms.specs.declared.role.RoleEntry.{RoleEntry}

abbrev pub same_name : Name → Name → Bool
same_name a b = pointwise nat_eq a b

-- a repository: its objects in the order in which they came, its refs, who created it, and who holds which
-- role in it
pub record Repository : Type 0 where
  pub objects : List Content
  pub refs : Refs
  pub creator : Option Name
  pub roles : List RoleEntry

abbrev pub store_of : Repository → Store
store_of repository = record { objects = repository.objects; refs = repository.refs }

abbrev pub wild_of : Repository → WildView
wild_of repository = record { creator = repository.creator; roles = repository.roles }

-- no ref's name has more than 1,024 bytes
abbrev pub HasShortNames : Refs → Type 0
HasShortNames refs = All (λ (ref : Name × ObjectId). length ref.0 ≤ 1024) (entries refs)

abbrev pub empty_repository : Option Name → Repository
empty_repository creator = record { objects = []; refs = empty; creator = creator; roles = [] }

-- a commit, and the objects among which it was found to be whole
pub record CommitAmong : Type 0 where
  pub objects : List Content
  pub commit : ObjectId

-- The conf in force: the one at a commit that was pushed, and before the first such push the setup's, which
-- goes by the admin's name
pub record Conf : Type 0 where
  pub admin : Name
  pub pushed : Option CommitAmong

pub record State : Type 0 where
  pub repositories : ByName Repository
  pub conf : Conf

-- a repository by its name; where there is none it is empty
abbrev pub repository_at : State → Name → Repository
repository_at state name = unwrap_or (get state.repositories name) (empty_repository None)

-- What is in force for a repository: the conf, and who created the repository and who holds which role in it
pub record InForce : Type 0 where
  pub conf : Conf
  pub wild : WildView

-- what a state has of it
abbrev pub in_force : State → Name → InForce
in_force state name = record { conf = state.conf; wild = wild_of (repository_at state name) }

-- how many refs all repositories have together
unfoldable pub ref_count : State → ℕ
ref_count state = sum_by (λ (e : Name × Repository). len e.1.refs) (entries state.repositories)

-- the repository of the conf, and the branch whose commits have it
abbrev pub conf_repository : Name
conf_repository = codes "gitolite-admin"

abbrev pub conf_branch : Name
conf_branch = codes "refs/heads/master"

-- a new hub: two empty repositories, and the setup's conf
abbrev pub start : Name → State
start admin = record {
  repositories = insert (insert empty conf_repository (empty_repository None)) (codes "testing") (empty_repository None);
  conf = record { admin = admin; pushed = None };
}

-- ---- changes

-- what an event changes: repositories that are put in place, and perhaps the commit whose conf is in force
pub record Change : Type 0 where
  pub repositories : List (Name × Repository)
  pub conf : Option CommitAmong

-- a map with repositories put in place; of two with one name the first counts
abbrev pub placed_in : ByName Repository → List (Name × Repository) → ByName Repository
placed_in known [] = known
placed_in known (n ∷ ns) = insert (placed_in known ns) n.0 n.1

abbrev pub conf_after : Conf → Option CommitAmong → Conf
conf_after conf None = conf
conf_after conf (Some pushed) = record conf { pushed = Some pushed }

abbrev pub changed : State → Change → State
changed state change = record { repositories = placed_in state.repositories change.repositories; conf = conf_after state.conf change.conf }

abbrev pub no_change : Change
no_change = record { repositories = []; conf = None }

-- a repository in its place, if there is one
abbrev pub put_in_place : Name → Option Repository → List (Name × Repository)
put_in_place name None = []
put_in_place name (Some repository) = (name, repository) ∷ []
