-- What a caller knows of a hub, and what its calls do.
use Rattle.std.specs.Prelude.{◌≡◌, ◌≤◌, ℕ, List, [], ◌∷◌, ◌++◌, Option, None, Some, Bool, true, IsTrue, nat_eq, drop, length}
use Rattle.conf_lex.specs.Names.{is_user_name}
use Rattle.std.specs.List.{AllByRecursion, filter}
use Rattle.git_object.specs.Content.{Content}
use Rattle.ref_store.specs.declared.command.Command.{Command}
use Rattle.ref_store.specs.Refs.{Name}
use Rattle.access_check.specs.declared.verdicts.Want.{Want}
use Rattle.wild_perms.specs.declared.answer.PermsAnswer.{PermsAnswer}
use Rattle.hub_history.specs.declared.entry.Entry.{Entry}
use Rattle.hub_history.specs.declared.entry.Event.{Event}
use Rattle.hub_history.specs.declared.entry.PermChange.{PermChange}
use Rattle.hub_history.specs.History.{IsLegal, Stands}
use Rattle.hub_history.specs.Opening.{Opening}
use Rattle.hub_history.specs.Roles.{kept_of}
use Rattle.hub.specs.declared.answer.Entered.{Entered}
use Rattle.hub.specs.declared.answer.Looked.{Looked}
use Rattle.hub.specs.declared.answer.Pushed.{Pushed}
use Rattle.hub.specs.Answer.{AnswersChange, AnswersLook, AnswersOpening, AnswersPush, kept, looked, opened, permitted, settled}
use Rattle.hub.specs.Hub.{HubView}

-- admin: the name from whose setup the log is legal
-- caller: the number that the caller's entries bear
-- start: the place in the log from which on they are the caller's own
-- seen: the beginning of the log that the caller knows
-- alone: whether the hub is known to have no other caller; its only caller has the number 0
pub record DeskView : Type 0 where
  pub admin : Name
  pub caller : ℕ
  pub start : ℕ
  pub seen : List Entry
  pub alone : Bool

-- the hub, as far as the caller knows it
abbrev pub known : DeskView → HubView
known desk = record { admin = desk.admin; log = desk.seen }

-- the entries of a log from a place on that bear a number
abbrev pub entries_of : ℕ → ℕ → List Entry → List Entry
entries_of caller start log = filter (λ (e : Entry). nat_eq e.caller caller) (drop start log)

-- the caller's own entries
abbrev pub mine : DeskView → List Entry
mine desk = entries_of desk.caller desk.start desk.seen

-- an entry of another caller
abbrev pub IsOfAnother : ℕ → Entry → Type 0
IsOfAnother caller e = ¬ (e.caller ≡ caller)

-- An entry is made, and no other: the log had gone on, by entries of others, to what it was just before it,
-- and the caller has then seen it up to it
pub record MakesEntry (old new : DeskView) (before : List Entry) (entry : Entry) : Type 0 where
  pub others : List Entry
  pub before_is : before ≡ old.seen ++ others
  pub of_others : AllByRecursion (IsOfAnother old.caller) others
  pub own : entry.caller ≡ old.caller
  pub new_is : new ≡ record old { seen = before ++ entry ∷ [] }
  pub no_others : IsTrue old.alone → (others ≡ []) × (old.caller ≡ 0)
  pub legal : IsLegal old.admin (before ++ entry ∷ [])

-- A call that makes an entry for an event; one that makes none leaves all as it was
abbrev pub Calls : DeskView → DeskView → List Entry → Option Event → Type 0
Calls old new before None = new ≡ old
Calls old new before (Some event) = MakesEntry old new before (record { caller = old.caller; event = event })

-- an opening, answered by the log just before its own entry
abbrev pub Enters : DeskView → DeskView → Name → Name → Want → Entered → Type 0
Enters old new user repo want result =
    (before : List Entry) × Calls old new before (opened user repo want (kept result)) × AnswersOpening (record { admin = old.admin; log = before }) (known new) user repo want result

-- a push, settled by the log just before its own entry
abbrev pub Pushes : DeskView → DeskView → Opening → List Content → List Command → Bool → Pushed → Type 0
Pushes old new pin pack commands atomic result =
    (before : List Entry) × Calls old new before (settled pin pack commands atomic result) × AnswersPush (record { admin = old.admin; log = before }) pin result

-- a change or a listing of roles, answered by the log just before its own entry
abbrev pub Permits : DeskView → DeskView → Name → Name → PermChange → PermsAnswer → Type 0
Permits old new user repo asked result =
    (before : List Entry) × Calls old new before (permitted user repo asked (kept_of result)) × AnswersChange (record { admin = old.admin; log = before }) repo result

-- a listing, by the log just before its own entry
abbrev pub Looks : DeskView → DeskView → Name → Looked → Type 0
Looks old new user result = (before : List Entry) × Calls old new before (looked user result) × AnswersLook (record { admin = old.admin; log = before }) user result

-- every pin that stood goes on standing
abbrev pub KeepsPins : DeskView → DeskView → Type 0
KeepsPins old new = (pin : Opening) → Stands pin old.admin old.seen → Stands pin new.admin new.seen

-- what the only caller of a hub knows, whose own entries begin at a place
abbrev pub known_alone : ℕ → HubView → DeskView
known_alone start hub = record { admin = hub.admin; caller = 0; start = start; seen = hub.log; alone = true }

-- the admin is a user's name, what every caller knows is legal, and its own entries begin within it
pub record IsSound (desk : DeskView) : Type 0 where
  pub named : is_user_name desk.admin ≡ true
  pub legal : IsLegal desk.admin desk.seen
  pub within : desk.start ≤ length desk.seen
