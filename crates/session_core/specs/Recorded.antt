-- What a log records.
use Rattle.std.specs.Prelude.{◌≡◌, true, List}
use Rattle.conf_lex.specs.Names.{is_user_name}
use Rattle.ref_store.specs.Refs.{Name}
use Rattle.hub_history.specs.declared.entry.Entry.{Entry}
use Rattle.hub_history.specs.History.{IsLegal}
use Rattle.interaction_tree.specs.Requests.{Agrees, Answers}
use Rattle.session_core.specs.Rulebook.{IsRulebook, Rulebook}

-- how a hub answers, and the rules that are in force along its log
pub record Recorded : Type 0 where
  pub answers : Answers
  pub book : Rulebook

-- the answers agree with a log, and the rules are those that were in force along it
pub record IsRecorded (admin : Name) (log : List Entry) (recorded : Recorded) : Type 0 where
  pub agrees : Agrees recorded.answers log
  pub book : IsRulebook admin log recorded.book

-- what holds where a hub answers as a log records, and tells of its rules: it holds by all that the log
-- records so
abbrev pub AsRecorded : Name → List Entry → (Recorded → Type 0) → Type 0
AsRecorded admin log holds = (recorded : Recorded) → IsRecorded admin log recorded → holds recorded

-- whoever the admin is, every legal log records something
abbrev pub LegalLogsAreRecorded : Type 0
LegalLogsAreRecorded = (admin : Name) (log : List Entry) → is_user_name admin ≡ true → IsLegal admin log → (recorded : Recorded) × IsRecorded admin log recorded
