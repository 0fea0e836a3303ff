-- A session's turn at a hub that nobody else asks, by what that hub answers: the log before each entry is the
-- one that the session itself led to.
use Rattle.std.specs.Prelude.{◌≡◌, ℕ, List, [], ◌∷◌, ◌++◌, drop}
use Rattle.hub_history.specs.declared.entry.Entry.{Entry}
use Rattle.interaction_tree.specs.Wanted.{front_of, by_front}
use Rattle.hub_history.specs.Requests.{Request}
use Rattle.interaction_tree.specs.Requests.{Answers, OwnEntry, asked}
use Rattle.interaction_tree.specs.Interaction.{Interaction, gives, ends, writes, reads, asks}
use Rattle.interaction_tree.specs.Turns.{Stop, Gave, Ended}

pub record TurnAlone (E A : Type 0) : Type 0 where
  -- the bytes that are due
  pub bytes : List ℕ
  pub stop : Stop E A
  -- the log afterwards
  pub log : List Entry

-- the entry that the only caller's request brings about
abbrev pub answered_entry : Answers → List Entry → Request → Entry
answered_entry answers log request = record { caller = 0; event = answers log request }

-- By what the hub answers, a whole input, and the log before.
unfoldable pub turn_alone : {E A : Type 0} → Answers → Interaction E A → List ℕ → List Entry → TurnAlone E A
turn_alone answers (gives a) input log = record { bytes = []; stop = Gave a; log = log }
turn_alone answers (ends e) input log = record { bytes = []; stop = Ended e; log = log }
turn_alone answers (writes bytes t) input log = let rest = turn_alone answers t input log in record rest { bytes = bytes ++ rest.bytes }
turn_alone answers (reads wanted cut f) input log = by_front (front_of wanted input)
    (λ fault. record { bytes = (cut fault).bytes; stop = Ended (cut fault).end; log = log })
    (λ used found. turn_alone answers (f (record { used = used; found = found })) (drop used input) log)
turn_alone answers (asks request f) input log = let entry = answered_entry answers log request in turn_alone answers (f (record { before = log; entry = entry })) input (log ++ entry ∷ [])

-- These own entries stand one behind the other, from one log to another, and the session is the only caller.
abbrev pub IsAlone : Answers → List Entry → List OwnEntry → List Entry → Type 0
IsAlone answers log [] log' = log' ≡ log
IsAlone answers log (one ∷ own) log' = (one.before ≡ log) × (one.entry ≡ answered_entry answers log (asked one)) × IsAlone answers (log ++ one.entry ∷ []) own log'
