-- An opening, as an interaction.
use Rattle.std.specs.Prelude.{List, [], ◌∷◌, ◌++◌, length, codes, Option}
use Rattle.ref_store.specs.Refs.{Name}
use Rattle.rule_compile.specs.declared.rule.Rule.{Rule}
use Rattle.access_check.specs.Verdicts.{rule_of}
use Rattle.access_check.specs.declared.verdicts.Want.{Want}
use Rattle.hub_history.specs.declared.entry.EnterKept.{EnterKept}
use Rattle.hub_history.specs.declared.entry.EnterKept.TheVariants as answer
use Rattle.hub_history.specs.declared.entry.Entry.{Entry}
use Rattle.hub_history.specs.declared.entry.Event.{Event}
use Rattle.hub_history.specs.declared.entry.Event.TheVariants.{Entered, Pushed, Permitted, Looked}
use Rattle.hub_history.specs.Opening.{Opening, pinned_in}
use Rattle.hub_history.specs.History.{IsLegal, Stands, replay}
use Rattle.hub_history.specs.Requests.{Enter}
use Rattle.interaction_tree.specs.Requests.{OwnEntry}
use Rattle.interaction_tree.specs.Interaction.{Interaction, gives, ◌>>=◌, ask}
use Rattle.session_core.specs.declared.end.SessionEnd.{SessionEnd}
use Rattle.session_core.specs.declared.end.SessionEnd.TheVariants as end
use Rattle.session_core.specs.Denials.{denial, open_text}
use Rattle.session_core.specs.Packets.{refuse}
use Rattle.session_core.specs.Rulebook.{Rulebook}

-- The answer that an opening's entry records. Another entry, which a request to open never makes, is taken as
-- one that found no repository.
abbrev pub recorded_answer : Event → EnterKept
recorded_answer (Entered user repo want kept) = kept
recorded_answer (Pushed place pack commands atomic outcomes made) = answer.NoRepo
recorded_answer (Permitted user repo change kept) = answer.NoRepo
recorded_answer (Looked user) = answer.NoRepo

-- the place of an opening's entry, and what it pins of the state that the log leads to with that entry
abbrev pub opening_behind : Name → OwnEntry → Name → Name → Want → Opening
opening_behind admin own user repo want = record {
  place = length own.before;
  pinned = pinned_in (replay admin (own.before ++ own.entry ∷ [])) user repo want;
}

-- what an opening comes to
pub data Opened : Type 0 where
  -- the user is let in, perhaps to a repository that was made by it
  LetIn : Opening → Opened
  -- it is denied, by this rule or, where there is none, by the fallthrough
  Refused : Option Rule → Opened
  -- there is no such repository, and the user may not make it
  Absent : Opened

-- by an answer, and by the rules that were in force just before it
abbrev pub opened_by : List Rule → EnterKept → Opening → Opened
opened_by rules answer.Granted opening = LetIn opening
opened_by rules answer.Created opening = LetIn opening
opened_by rules (answer.Denied verdict) opening = Refused (rule_of rules verdict)
opened_by rules answer.NoRepo opening = Absent

-- The opening, whatever the protocol, by the answer that its entry records; the admin is the one from whose
-- setup the log is legal.
unfoldable pub opening : {E : Type 0} → Rulebook → Name → Name → Name → Want → Interaction E Opened
opening book admin user repo want = do
  own ← ask (Enter user repo want)
  gives (opened_by (book.rules (length own.before)).rules (recorded_answer own.entry.event) (opening_behind admin own user repo want))

-- what a session writes where its user isn't let in
abbrev pub unless_refused : Name → Name → Want → Opened → Interaction SessionEnd Opening
unless_refused user repo want (LetIn opening) = gives opening
unless_refused user repo want (Refused rule) = refuse (codes "ERR " ++ denial (open_text want) repo user rule) end.Denied
unless_refused user repo want Absent = refuse (codes "ERR no such repository") end.NoRepo

-- the opening of a session
unfoldable pub entering : Rulebook → Name → Name → Name → Want → Interaction SessionEnd Opening
entering book admin user repo want = do
  opened ← opening book admin user repo want
  unless_refused user repo want opened

-- an opening that stands in a log which is legal
abbrev pub StandsSomewhere : Opening → Type 0
StandsSomewhere opening = (admin : Name) × (log : List Entry) × IsLegal admin log × Stands opening admin log
