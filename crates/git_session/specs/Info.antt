-- A listing of what there is to see, as an interaction.
use Rattle.std.specs.Prelude.{ℕ, List, ◌++◌, length, map, codes}
use Rattle.std.specs.List.{flat_map}
use Rattle.pktline_core.specs.Packets.{spelling, Flush}
use Rattle.ref_store.specs.Refs.{Name}
use Rattle.repo_listing.specs.Lines.{line_text}
use Rattle.repo_listing.specs.declared.lines.LookLine.{LookLine}
use Rattle.hub_history.specs.History.{replay}
use Rattle.hub.specs.Answer.{lines_for}
use Rattle.hub_history.specs.Requests.{Look}
use Rattle.interaction_tree.specs.Requests.{OwnEntry}
use Rattle.interaction_tree.specs.Interaction.{Interaction, ◌>>=◌, write, ask}
use Rattle.session_core.specs.declared.end.SessionEnd.{SessionEnd}
use Rattle.session_core.specs.Denials.{fitting}
use Rattle.session_core.specs.Packets.{packet}
use Rattle.session_core.specs.Rulebook.{Rulebook}

-- `hello USER`
abbrev pub hello : Name → List ℕ
hello user = codes "hello " ++ fitting user ++ codes "\n"

-- a line of a listing, as much of it as a packet has room for
abbrev pub look_line : LookLine → List ℕ
look_line line = fitting (line_text line)

-- a packet for the greeting, one for each line, and a flush
unfoldable pub info_reply : Name → List LookLine → List ℕ
info_reply user lines = packet (hello user) ++ (flat_map packet (map look_line lines) ++ spelling Flush)

-- what the rules that were in force just before an entry let a user see of the repositories that were there
abbrev pub lines_before : Rulebook → Name → OwnEntry → Name → List LookLine
lines_before book admin own user = lines_for book.patterns (book.rules (length own.before)) (replay admin own.before) user

-- the listing; the admin is the one from whose setup the log is legal
unfoldable pub looking : Rulebook → Name → Name → Interaction SessionEnd (Unit {0})
looking book admin user = do
  own ← ask (Look user)
  write (info_reply user (lines_before book admin own user))
