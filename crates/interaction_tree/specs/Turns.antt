-- A session's turn: what is due of an interaction, by its input and by the session's own entries.
use Rattle.std.specs.Prelude.{ℕ, List, [], ◌∷◌, ◌++◌, take, drop}
use Rattle.interaction_tree.specs.Wanted.{front_of, by_front}
use Rattle.hub_history.specs.Requests.{Request}
use Rattle.interaction_tree.specs.Requests.{OwnEntry}
use Rattle.interaction_tree.specs.Interaction.{CutOff, Interaction, gives, ends, writes, reads, asks}

-- whether an input ends with its last byte, or may go on
pub data Extent : Type 0 where
  Closed : Extent
  Open : Extent

-- where an interaction stands still
pub data Stop (E A : Type 0) : Type 0 where
  -- it gave its value
  Gave : A → Stop E A
  -- it ended
  Ended : E → Stop E A
  -- the last entry that it asks for isn't made yet
  Unanswered : Stop E A
  -- more input is wanted
  Waiting : Stop E A

pub record Turn (E A : Type 0) : Type 0 where
  -- the beginning of the input that is used
  pub used : List ℕ
  -- the entries that are due, the last of them perhaps unanswered
  pub requests : List Request
  -- the bytes that are due
  pub bytes : List ℕ
  pub stop : Stop E A

abbrev pub at_once : {E A : Type 0} → Stop E A → Turn E A
at_once stop = record { used = []; requests = []; bytes = []; stop = stop }

abbrev pub after_writing : {E A : Type 0} → List ℕ → Turn E A → Turn E A
after_writing bytes t = record t { bytes = bytes ++ t.bytes }

abbrev pub after_reading : {E A : Type 0} → List ℕ → Turn E A → Turn E A
after_reading used t = record t { used = used ++ t.used }

abbrev pub after_asking : {E A : Type 0} → Request → Turn E A → Turn E A
after_asking request t = record t { requests = request ∷ t.requests }

-- an input that ends inside what is wanted
abbrev pub cut_off : {E A : Type 0} → Extent → List ℕ → CutOff E → Turn E A
cut_off Closed input cut = record { used = input; requests = []; bytes = cut.bytes; stop = Ended cut.end }
cut_off Open input cut = record { used = input; requests = []; bytes = []; stop = Waiting }

-- What is due by an input and the session's own entries, in their order. A request whose entry isn't there is
-- unanswered.
unfoldable pub turn_over : {E A : Type 0} → Extent → Interaction E A → List ℕ → List OwnEntry → Turn E A
turn_over extent (gives a) input own = at_once (Gave a)
turn_over extent (ends e) input own = at_once (Ended e)
turn_over extent (writes bytes t) input own = after_writing bytes (turn_over extent t input own)
turn_over extent (reads wanted cut f) input own = by_front (front_of wanted input)
    (λ fault. cut_off extent input (cut fault))
    (λ used found. after_reading (take used input) (turn_over extent (f (record { used = used; found = found })) (drop used input) own))
turn_over extent (asks request f) input [] = after_asking request (at_once Unanswered)
turn_over extent (asks request f) input (one ∷ own) = after_asking request (turn_over extent (f one) input own)

-- what stands behind a turn that stopped so
abbrev pub by_stop : {E A B : Type 0} → Stop E A → (A → Turn E B) → Turn E B
by_stop (Gave value) go = go value
by_stop (Ended e) go = at_once (Ended e)
by_stop Unanswered go = at_once Unanswered
by_stop Waiting go = at_once Waiting

-- a turn behind what was used, asked and due before
abbrev pub behind : {E A : Type 0} → List ℕ → List Request → List ℕ → Turn E A → Turn E A
behind used requests bytes t = record { used = used ++ t.used; requests = requests ++ t.requests; bytes = bytes ++ t.bytes; stop = t.stop }

-- the turn over a whole input
abbrev pub turn : {E A : Type 0} → Interaction E A → List ℕ → List OwnEntry → Turn E A
turn t input own = turn_over Closed t input own

-- what is due after a part of an input that isn't taken for its end
abbrev pub due : {E A : Type 0} → Interaction E A → List ℕ → List OwnEntry → Turn E A
due t part own = turn_over Open t part own

-- a turn, and behind it the one that its value decides, which begins behind what the first used and asked
abbrev pub and_then : {E A B : Type 0} → Turn E A → (A → List ℕ → List Request → Turn E B) → Turn E B
and_then t go = behind t.used t.requests t.bytes (by_stop t.stop (λ value. go value t.used t.requests))

-- the same turn with another end
abbrev pub stop_as : {E F A : Type 0} → (E → F) → Stop E A → Stop F A
stop_as end_as (Gave value) = Gave value
stop_as end_as (Ended e) = Ended (end_as e)
stop_as end_as Unanswered = Unanswered
stop_as end_as Waiting = Waiting

abbrev pub turn_as : {E F A : Type 0} → (E → F) → Turn E A → Turn F A
turn_as end_as t = record { used = t.used; requests = t.requests; bytes = t.bytes; stop = stop_as end_as t.stop }
