-- Laws of creators and of roles.
use Rattle.std.specs.Prelude.{◌≡◌, ◌↔◌, ◌⊎◌, Bool, true, false, List, [], ◌∷◌, ◌++◌, Option, None, Some}
use Rattle.std.specs.List.{Contains}
use Rattle.std.specs.FinMap.{get}
use Rattle.ref_store.specs.Refs.{Name}
use Rattle.rule_compile.specs.Flat.{Flat}
use Rattle.rule_compile.specs.Patterns.{AreTrue, Patterns}
use Rattle.rule_compile.specs.Roles.{declares}
use Rattle.access_check.specs.declared.verdicts.Want.{Want}
use Rattle.wild_perms.specs.Roles.{IsRoleSet}
use Rattle.wild_perms.specs.declared.role.RoleEntry.{RoleEntry}
use Rattle.hub_history.specs.declared.entry.Entry.{Entry}
use Rattle.hub_history.specs.declared.entry.EnterKept.TheVariants.{Created}
use Rattle.hub_history.specs.declared.entry.Event.TheVariants.{Entered, Permitted}
use Rattle.hub_history.specs.declared.entry.PermChange.{PermChange}
use Rattle.hub_history.specs.declared.entry.PermChange.TheVariants as change
use Rattle.hub_history.specs.declared.entry.PermsKept.{PermsKept}
use Rattle.hub_history.specs.declared.entry.PermsKept.TheVariants.{Changed, AlreadySo, NotWild, NotCreator, NoSuchRole, Listed}
use Rattle.hub_history.specs.Conf.{AreInForce}
use Rattle.hub_history.specs.History.{IsLegal, replay}
use Rattle.hub_history.specs.Laws.{OfEachRepository}
use Rattle.hub_history.specs.Roles.{entry_of, is_declared}
use Rattle.hub_history.specs.State.{Repository, State, empty_repository, repository_at}

-- who created a repository, if anybody did
abbrev pub creator_in : State → Name → Option Name
creator_in state repo = (repository_at state repo).creator

-- a user holds a role in a repository
abbrev pub Holds : State → Name → RoleEntry → Type 0
Holds state repo entry = Contains (repository_at state repo).roles entry

-- ---- creators

-- A repository gets a creator only where an opening made it, and that is who opened it. No repository's
-- creator changes otherwise.
abbrev pub CreatorsOpened : Type 0
CreatorsOpened =
    (admin : Name) (before : List Entry) (entry : Entry) (repo : Name) → IsLegal admin (before ++ entry ∷ []) → ¬ (creator_in (replay admin (before ++ entry ∷ [])) repo ≡ creator_in (replay admin before) repo)
    → (user : Name) × (want : Want) × (entry.event ≡ Entered user repo want Created) × (creator_in (replay admin (before ++ entry ∷ [])) repo ≡ Some user)

-- an opening that made a repository did so where there was none, and left it empty, with who opened it as its
-- creator
abbrev pub CreatedIsNew : Type 0
CreatedIsNew =
    (admin : Name) (before : List Entry) (entry : Entry) (user repo : Name) (want : Want) → IsLegal admin (before ++ entry ∷ []) → entry.event ≡ Entered user repo want Created
    → (get (replay admin before).repositories repo ≡ None) × (get (replay admin (before ++ entry ∷ [])).repositories repo ≡ Some (empty_repository (Some user)))

-- a repository that is there for the first time is empty
abbrev pub NewIsEmpty : Type 0
NewIsEmpty =
    (admin : Name) (before : List Entry) (entry : Entry) (repo : Name) (is : Repository) → IsLegal admin (before ++ entry ∷ []) → get (replay admin before).repositories repo ≡ None
    → get (replay admin (before ++ entry ∷ [])).repositories repo ≡ Some is → is ≡ empty_repository is.creator

-- ---- roles

-- the roles of a repository are a set
abbrev pub RolesStaySets : Type 0
RolesStaySets = OfEachRepository (λ repository. IsRoleSet repository.roles)

-- what is asked is so before it is asked
abbrev pub IsSo : State → Name → PermChange → Type 0
IsSo state repo (change.Grant role user) = Holds state repo (entry_of role user)
IsSo state repo (change.Revoke role user) = ¬ Holds state repo (entry_of role user)
IsSo state repo change.List = ⊥

-- it is not
abbrev pub IsNotSo : State → Name → PermChange → Type 0
IsNotSo state repo (change.Grant role user) = ¬ Holds state repo (entry_of role user)
IsNotSo state repo (change.Revoke role user) = Holds state repo (entry_of role user)
IsNotSo state repo change.List = ⊥

-- what an answer to an asker tells of a repository
abbrev pub TellsOfRoles : State → Name → Name → PermChange → PermsKept → Type 0
TellsOfRoles state asker repo asked Changed = (creator_in state repo ≡ Some asker) × IsNotSo state repo asked
TellsOfRoles state asker repo asked AlreadySo = (creator_in state repo ≡ Some asker) × IsSo state repo asked
TellsOfRoles state asker repo asked Listed = (creator_in state repo ≡ Some asker) × (asked ≡ change.List)
TellsOfRoles state asker repo asked NotWild = creator_in state repo ≡ None
TellsOfRoles state asker repo asked NotCreator = (creator : Name) × (creator_in state repo ≡ Some creator) × ¬ (creator ≡ asker)
TellsOfRoles state asker repo asked NoSuchRole = Unit {0}

-- every answer but that there is no such role
abbrev pub is_of_role : PermsKept → Bool
is_of_role NoSuchRole = false
is_of_role Changed = true
is_of_role AlreadySo = true
is_of_role NotWild = true
is_of_role NotCreator = true
is_of_role Listed = true

-- whether the rules in force declare the word that is asked for as a role for the repository
abbrev pub IsDeclaredAs : Bool → State → Name → PermChange → Type 0
IsDeclaredAs declared state repo asked =
    (patterns : Patterns) → AreTrue patterns → (rules : Flat) × AreInForce patterns state.conf rules × (is_declared patterns rules repo (creator_in state repo) asked ≡ declared)

-- Each answer tells what is so just before it. That there is no such role is told exactly where the rules in
-- force don't declare the word.
abbrev pub AnswersTellOfRoles : Type 0
AnswersTellOfRoles =
    (admin : Name) (before : List Entry) (entry : Entry) (asker repo : Name) (asked : PermChange) (answer : PermsKept) → IsLegal admin (before ++ entry ∷ []) → entry.event ≡ Permitted asker repo asked answer
    → TellsOfRoles (replay admin before) asker repo asked answer × IsDeclaredAs (is_of_role answer) (replay admin before) repo asked

-- who holds which role behind a change that is done
abbrev pub HoldsBehind : State → Name → PermChange → RoleEntry → Type 0
HoldsBehind state repo (change.Grant role user) entry = (entry ≡ entry_of role user) ⊎ Holds state repo entry
HoldsBehind state repo (change.Revoke role user) entry = Holds state repo entry × ¬ (entry ≡ entry_of role user)
HoldsBehind state repo change.List entry = Holds state repo entry

-- a change that is done gives one role to one user, or takes it, and leaves all others
abbrev pub ChangesAreOfOneRole : Type 0
ChangesAreOfOneRole =
    (admin : Name) (before : List Entry) (entry : Entry) (asker repo : Name) (asked : PermChange) → IsLegal admin (before ++ entry ∷ []) → entry.event ≡ Permitted asker repo asked Changed
    → (held : RoleEntry) → Holds (replay admin (before ++ entry ∷ [])) repo held ↔ HoldsBehind (replay admin before) repo asked held

-- and a repository's roles change nowhere else
abbrev pub RolesChangeThere : Type 0
RolesChangeThere =
    (admin : Name) (before : List Entry) (entry : Entry) (repo : Name) → IsLegal admin (before ++ entry ∷ [])
    → ¬ ((repository_at (replay admin (before ++ entry ∷ [])) repo).roles ≡ (repository_at (replay admin before) repo).roles)
    → (asker : Name) × (asked : PermChange) × (entry.event ≡ Permitted asker repo asked Changed)

-- ---- roles that aren't declared

-- no rules in force declare the word as a role for the repository
abbrev pub IsUndeclared : State → Name → Name → Type 0
IsUndeclared state repo role =
    (patterns : Patterns) → AreTrue patterns → (rules : Flat) → AreInForce patterns state.conf rules → declares patterns rules.options role repo (creator_in state repo) ≡ false

-- A role that is held stays while it isn't declared, whatever happens. A change of the conf gives and takes
-- none.
abbrev pub UndeclaredStay : Type 0
UndeclaredStay =
    (admin : Name) (before : List Entry) (entry : Entry) (repo : Name) (held : RoleEntry) → IsLegal admin (before ++ entry ∷ []) → Holds (replay admin before) repo held
    → IsUndeclared (replay admin before) repo held.role → Holds (replay admin (before ++ entry ∷ [])) repo held
