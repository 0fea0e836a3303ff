-- Changes of roles: their answers, and what they change.
use Rattle.std.specs.Prelude.{◌≡◌, List, Option, None, Some, Bool, true, ◌&&◌, not, if◌then◌else◌}
use Rattle.std.specs.List.{list_any}
use Rattle.std.specs.Str.{bytes_eq}
use Rattle.ref_store.specs.Refs.{Name}
use Rattle.rule_compile.specs.Flat.{Flat}
use Rattle.rule_compile.specs.Patterns.{Patterns}
use Rattle.rule_compile.specs.Roles.{declares}
use Rattle.wild_perms.specs.Answers.{refusal, refused_by}
use Rattle.wild_perms.specs.Roles.{WildView, with_entry, without_entry}
use Rattle.wild_perms.specs.declared.role.RoleEntry.{RoleEntry}
use Rattle.wild_perms.specs.declared.answer.PermsAnswer.{PermsAnswer}
use Rattle.wild_perms.specs.declared.answer.PermsAnswer.TheVariants as perms
use Rattle.hub_history.specs.declared.entry.PermChange.{PermChange}
use Rattle.hub_history.specs.declared.entry.PermChange.TheVariants as change
use Rattle.hub_history.specs.declared.entry.PermsKept.{PermsKept}
use Rattle.hub_history.specs.declared.entry.PermsKept.TheVariants.{Changed, AlreadySo, NotWild, NotCreator, NoSuchRole, Listed}
use Rattle.hub_history.specs.Conf.{AreInForce}
use Rattle.hub_history.specs.State.{Change, State, no_change, put_in_place, repository_at, wild_of}

abbrev pub entry_of : Name → Name → RoleEntry
entry_of role user = record { role = role; user = user }

abbrev pub has_entry : List RoleEntry → RoleEntry → Bool
has_entry roles entry = list_any (λ e. bytes_eq e.role entry.role && bytes_eq e.user entry.user) roles

-- what the log keeps of an answer
abbrev pub kept_of : PermsAnswer → Option PermsKept
kept_of perms.Changed = Some Changed
kept_of perms.AlreadySo = Some AlreadySo
kept_of perms.NotWild = Some NotWild
kept_of perms.NotCreator = Some NotCreator
kept_of perms.NoSuchRole = Some NoSuchRole
kept_of (perms.Listed roles) = Some Listed
kept_of perms.NoMemory = None

-- the answer where nothing refuses it, by whether it is so already
abbrev pub unless_refused : Option PermsAnswer → Bool → Option PermsKept
unless_refused (Some refused) so = kept_of refused
unless_refused None so = Some (if so then AlreadySo else Changed)

abbrev pub unless_kept : Option PermsAnswer → Option PermsKept
unless_kept (Some refused) = kept_of refused
unless_kept None = Some Listed

-- Whether rules declare the word that is asked for as a role for the repository. A listing asks for none.
abbrev pub is_declared : Patterns → Flat → Name → Option Name → PermChange → Bool
is_declared patterns rules repo creator (change.Grant role user) = declares patterns rules.options role repo creator
is_declared patterns rules repo creator (change.Revoke role user) = declares patterns rules.options role repo creator
is_declared patterns rules repo creator change.List = true

-- A role that is declared is given where the user doesn't hold it, taken where the user does, and all are
-- shown, to the creator alone. A repository that isn't there answers as one without creator.
abbrev pub answer_to_change : WildView → Name → Bool → PermChange → Option PermsKept
answer_to_change wild asker declared (change.Grant role user) = unless_refused (refusal wild asker declared) (has_entry wild.roles (entry_of role user))
answer_to_change wild asker declared (change.Revoke role user) = unless_refused (refusal wild asker declared) (not (has_entry wild.roles (entry_of role user)))
answer_to_change wild asker declared change.List = unless_kept (refused_by wild.creator asker)

-- the same of a repository, by rules
abbrev pub answer_by_rules : Patterns → Flat → WildView → Name → Name → PermChange → Option PermsKept
answer_by_rules patterns rules wild user repo asked = answer_to_change wild user (is_declared patterns rules repo wild.creator asked) asked

-- the answer to a change of roles is the one that the rules in force, and the repository's creator and roles,
-- give
abbrev pub IsDueChange : Patterns → State → Name → Name → PermChange → PermsKept → Type 0
IsDueChange patterns state user repo asked answer =
    (rules : Flat) × AreInForce patterns state.conf rules × (Some answer ≡ answer_by_rules patterns rules (wild_of (repository_at state repo)) user repo asked)

abbrev pub roles_after : List RoleEntry → PermChange → List RoleEntry
roles_after roles (change.Grant role user) = with_entry roles (entry_of role user)
roles_after roles (change.Revoke role user) = without_entry roles (entry_of role user)
roles_after roles change.List = roles

-- what a change with this answer changes
abbrev pub given_by : State → Name → PermChange → PermsKept → Change
given_by state repo asked Changed =
    let repository = repository_at state repo in
    record { repositories = put_in_place repo (Some (record repository { roles = roles_after repository.roles asked })); conf = None }
given_by state repo asked AlreadySo = no_change
given_by state repo asked NotWild = no_change
given_by state repo asked NotCreator = no_change
given_by state repo asked NoSuchRole = no_change
given_by state repo asked Listed = no_change
