-- A change of roles that is asked of a creator and roles.
use Rattle.std.specs.Prelude.{◌≡◌, Bool, List, [], ◌∷◌}
use Rattle.ref_store.specs.Refs.{Name}
use Rattle.wild_perms.specs.Answers.{Grants, Lists, Revokes}
use Rattle.wild_perms.specs.Roles.{WildView}
use Rattle.wild_perms.specs.declared.answer.PermsAnswer.{PermsAnswer}
use Rattle.hub_history.specs.declared.entry.PermChange.{PermChange}
use Rattle.hub_history.specs.declared.entry.PermChange.TheVariants as change
use Rattle.hub_history.specs.declared.entry.PermsKept.{PermsKept}
use Rattle.hub_history.specs.declared.entry.PermsKept.TheVariants.{Changed, AlreadySo, NotWild, NotCreator, NoSuchRole, Listed}
use Rattle.hub_history.specs.Roles.{entry_of}
use Rattle.hub_history.specs.State.{Repository}

-- what an answer says, and what it leaves, where the word that is asked for is declared as a role or not
abbrev pub Asks : WildView → WildView → Name → Bool → PermChange → PermsAnswer → Type 0
Asks old new asker declared (change.Grant role user) answer = Grants old new asker (entry_of role user) declared answer
Asks old new asker declared (change.Revoke role user) answer = Revokes old new asker (entry_of role user) declared answer
Asks old new asker declared change.List answer = Lists old asker answer × (new ≡ old)

-- the repository that is put in place by what is kept of an answer
abbrev pub put_of : Name → Repository → WildView → PermsKept → List (Name × Repository)
put_of name repository wild Changed = (name, record repository { creator = wild.creator; roles = wild.roles }) ∷ []
put_of name repository wild AlreadySo = []
put_of name repository wild NotWild = []
put_of name repository wild NotCreator = []
put_of name repository wild NoSuchRole = []
put_of name repository wild Listed = []
