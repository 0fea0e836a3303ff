-- The rules that are in force along a log.
use Rattle.std.specs.Prelude.{◌≡◌, ℕ, ◌+◌, ◌≤◌, true, List, length, take, Result}
use Rattle.std.specs.Io.KnownBytes.{Consumes, Appends}
use Rattle.conf_lex.specs.Names.{is_user_name}
use Rattle.pktline_core.specs.LinkState.{LinkState}
use Rattle.pktline_core.specs.Links.{IsLater}
use Rattle.ref_store.specs.Refs.{Name}
use Rattle.rule_compile.specs.Flat.{Flat}
use Rattle.rule_compile.specs.Patterns.{AreTrue, Patterns}
use Rattle.hub_history.specs.declared.entry.Entry.{Entry}
use Rattle.hub_history.specs.Conf.{AreInForce}
use Rattle.hub_history.specs.History.{IsLegal, replay}
use Rattle.hub.specs.Desk.{DeskView}
use Rattle.interaction_tree.specs.Requests.{OwnEntry}
use Rattle.interaction_tree.specs.Interaction.{Interaction}
use Rattle.interaction_tree.specs.Traces.{Halt, IsTrace}
use Rattle.interaction_tree.specs.Runs.{IsCaused, MakesAll}

-- patterns: which names a pattern matches
-- rules: the rules in force behind so many entries of a log
pub record Rulebook : Type 0 where
  pub patterns : Patterns
  pub rules : ℕ → Flat

-- A rulebook is a log's: what it says of patterns is true, and its rules are those that the conf in force
-- comes to, behind each beginning of the log.
pub record IsRulebook (admin : Name) (log : List Entry) (book : Rulebook) : Type 0 where
  pub matching : AreTrue book.patterns
  pub in_force : (place : ℕ) → place ≤ length log → AreInForce book.patterns (replay admin (take place log)).conf (book.rules place)

-- what holds by the rules that were in force along a log: it holds by each rulebook of the log
abbrev pub ByRulebook : Name → List Entry → (Rulebook → Type 0) → Type 0
ByRulebook admin log holds = (book : Rulebook) → IsRulebook admin log book → holds book

-- As `Runs` of `interaction_tree`, of an interaction that goes by the rules in force: what was read, written
-- and entered is that of the interaction by each rulebook of the log, as the desk knows it afterwards.
pub record RunsByRulebook {E A : Type 0} (link link' : LinkState) (desk desk' : DeskView) (t : Rulebook → Interaction E A) (out : Result A (Halt E)) : Type 0 where
  pub read : List ℕ
  pub written : List ℕ
  pub own : List OwnEntry
  pub consumed : Consumes link.left link'.left read
  pub counted : link'.given ≡ link.given + length read
  pub appended : Appends link.written link'.written written
  pub made : MakesAll desk desk' own
  pub trace : ByRulebook desk'.admin desk'.seen (λ book. IsTrace link'.left out (t book) read written own)
  pub later : IsLater link link'
  pub caused : IsCaused link link' out

-- ---- laws

-- whoever the admin is, every legal log has a rulebook
abbrev pub LegalLogsHaveRulebooks : Type 0
LegalLogsHaveRulebooks =
    (admin : Name) (log : List Entry) (patterns : Patterns) → is_user_name admin ≡ true → IsLegal admin log → AreTrue patterns
    → (book : Rulebook) × (book.patterns ≡ patterns) × IsRulebook admin log book

-- and what it says of the log's rules is all the same
abbrev pub RulebooksAgree : Type 0
RulebooksAgree =
    (admin : Name) (log : List Entry) (one other : Rulebook) → one.patterns ≡ other.patterns → IsRulebook admin log one → IsRulebook admin log other
    → (place : ℕ) → place ≤ length log → one.rules place ≡ other.rules place
