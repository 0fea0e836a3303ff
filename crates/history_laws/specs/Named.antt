-- Names in the state that a legal log leads to.
use Rattle.std.specs.Prelude.{◌≡◌, true, List, Some, Contains}
use Rattle.std.specs.Option.{IfSome}
use Rattle.std.specs.FinMap.{get}
use Rattle.conf_lex.specs.Names.{is_repo_name, is_user_name}
use Rattle.ref_store.specs.Refs.{Name}
use Rattle.rule_compile.specs.Roles.{is_role_name}
use Rattle.wild_perms.specs.declared.role.RoleEntry.{RoleEntry}
use Rattle.hub_history.specs.declared.entry.Entry.{Entry}
use Rattle.hub_history.specs.History.{IsLegal, replay}
use Rattle.hub_history.specs.State.{Repository}

-- A repository has a repository's name; its creator, if it has one, has a user's, and so has each who holds a
-- role in it. What is held is a role by its form, whether it is declared or not.
pub record IsNamed (name : Name) (repository : Repository) : Type 0 where
  pub repo : is_repo_name name ≡ true
  pub creator : IfSome repository.creator (λ user. is_user_name user ≡ true)
  pub holders : (held : RoleEntry) → Contains repository.roles held → is_user_name held.user ≡ true
  pub roles : (held : RoleEntry) → Contains repository.roles held → is_role_name held.role ≡ true

-- Each repository of the state that a legal log leads to is named so.
abbrev pub AllAreNamed : Type 0
AllAreNamed = (admin : Name) (log : List Entry) → IsLegal admin log → (name : Name) (repository : Repository) → get (replay admin log).repositories name ≡ Some repository → IsNamed name repository
