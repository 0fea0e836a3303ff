-- Two runs of one script, and two of `load`, come to the same.
use Rattle.std.specs.Prelude.{◌≡◌, ℕ, true, Bool, List, [], Some}
use Rattle.conf_lex.specs.Names.{is_user_name}
use Rattle.pktline_core.specs.LinkState.{LinkState}
use Rattle.ref_store.specs.Refs.{Name}
use Rattle.hub_history.specs.declared.entry.Entry.{Entry}
use Rattle.hub_history.specs.History.{IsLegal}
use Rattle.shell_program.specs.Load.{IsLoaded, loader}
use Rattle.shell_program.specs.RunningScripts.{RunsScript}

-- A script of this input was run behind a log, up to its end or to a bad frame, and left another, which is
-- legal; this was printed.
pub record WasRun (admin : Name) (input : List ℕ) (before log : List Entry) (printed : List ℕ) : Type 0 where
  pub source : LinkState
  pub source' : LinkState
  pub sink : LinkState
  pub sink' : LinkState
  pub bad : Bool
  pub left : source.left ≡ Some input
  pub none : sink.written ≡ Some []
  pub output : sink'.written ≡ Some printed
  pub runs : RunsScript source source' sink sink' admin before log bad
  pub legal : IsLegal admin log

-- Two runs of one script behind one log leave equal logs, and print the same.
abbrev pub ScriptsAgree : Type 0
ScriptsAgree =
    (admin : Name) (input : List ℕ) (before one other : List Entry) (printed printed' : List ℕ) → is_user_name admin ≡ true
    → WasRun admin input before one printed → WasRun admin input before other printed' → (one ≡ other) × (printed ≡ printed')

-- Two runs of `load` with the same numbers leave equal logs, of which the line that is printed tells.
abbrev pub LoadsAgree : Type 0
LoadsAgree = (count start : ℕ) (one other : List Entry) → IsLegal loader one → IsLegal loader other → IsLoaded count start one → IsLoaded count start other → one ≡ other
