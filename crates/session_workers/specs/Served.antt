-- What a caller has served by a protocol, by its links and by the log alone.
use Rattle.std.specs.Prelude.{◌≡◌, ℕ, ◌≤◌, List, [], ◌∷◌, length, take, reverse}
use Rattle.pktline_core.specs.LinkState.{LinkState}
use Rattle.hub_history.specs.declared.entry.Entry.{Entry}
use Rattle.ref_store.specs.Refs.{Name}
use Rattle.hub.specs.Desk.{entries_of}
use Rattle.interaction_tree.specs.Requests.{own_in}
use Rattle.session_core.specs.End.{HaltHasCause, HaltIsSure}
use Rattle.session_core.specs.Protocol.{Meaning}
use Rattle.session_core.specs.Rulebook.{ByRulebook}

-- given, back: the link's state as it was given, and as it was given back
-- end: how its session ended
pub record ServedLink (E : Type 0) : Type 0 where
  pub given : LinkState
  pub back : LinkState
  pub end : E

-- What was read and written of a link, and a caller's entries from a place of the log on, are those of a
-- session of the protocol with this end, by the rules that were in force along the log; and the end has its
-- cause.
pub record IsSession {E : Type 0} (protocol : Meaning E) (admin : Name) (caller place : ℕ) (log : List Entry) (one : ServedLink E) : Type 0 where
  pub turn : ByRulebook admin log (λ book. protocol.takes book admin one.given one.back (own_in caller place log) one.end)
  pub cause : HaltHasCause one.given one.back (protocol.halt one.end)
  pub tells : protocol.tells one.given one.back one.end
  pub sure : HaltIsSure one.given one.back (protocol.halt one.end)

-- the links, with the last one first: the last one's session has the caller's entries from some place on, and
-- those before it are of the links before
abbrev pub ServedLatest : {E : Type 0} → Meaning E → Name → ℕ → ℕ → List Entry → List (ServedLink E) → Type 0
ServedLatest protocol admin caller start log [] = entries_of caller start log ≡ []
ServedLatest protocol admin caller start log (one ∷ earlier) =
    (place : ℕ) × (start ≤ place) × (place ≤ length log) × ServedLatest protocol admin caller start (take place log) earlier × IsSession protocol admin caller place log one

-- A caller's entries past the start are those of its sessions, one for each link, one after the other.
abbrev pub Served : {E : Type 0} → Meaning E → Name → ℕ → ℕ → List Entry → List (ServedLink E) → Type 0
Served protocol admin caller start log links = ServedLatest protocol admin caller start log (reverse links)
