-- What a session does, as an interaction tree: what it writes, reads and asks, one step after the other, each
-- by the replies before it.
use Rattle.std.specs.Prelude.{ℕ, zero, suc, ◌-◌, List, [], Result, Ok, Err}
use Rattle.interaction_tree.specs.Wanted.{Wanted, Within, Value, Fault, Reply, front_of, by_front}
use Rattle.hub_history.specs.Requests.{Request}
use Rattle.interaction_tree.specs.Requests.{OwnEntry}

-- how an input is taken that ends inside what is wanted: these bytes are still due, and this is the end
pub record CutOff (E : Type 0) : Type 0 where
  pub bytes : List ℕ
  pub end : E

-- An interaction that gives an A, or ends before with an E.
pub data Interaction (E A : Type 0) : Type 0 where
  -- it is done, and gives this
  gives : A → Interaction E A
  -- it ends
  ends : E → Interaction E A
  -- these bytes are due
  writes : List ℕ → Interaction E A → Interaction E A
  -- this is read, and the reply decides what follows; an input that ends inside it ends the interaction, as
  -- its fault says
  reads : (wanted : Wanted) → (Fault wanted → CutOff E) → (Reply wanted → Interaction E A) → Interaction E A
  -- an entry is made; with the answer that it records, and the log just before it, it decides what follows
  asks : Request → (OwnEntry → Interaction E A) → Interaction E A

-- one interaction, and then another that its value decides
infixl 10 ◌>>=◌
unfoldable pub ◌>>=◌ : {E A B : Type 0} → Interaction E A → (A → Interaction E B) → Interaction E B
(gives a) >>= k = k a
(ends e) >>= k = ends e
(writes bytes t) >>= k = writes bytes (t >>= k)
(reads wanted cut f) >>= k = reads wanted cut (λ reply. f reply >>= k)
(asks request f) >>= k = asks request (λ own. f own >>= k)

-- these bytes alone
unfoldable pub write : {E : Type 0} → List ℕ → Interaction E (Unit {0})
write bytes = writes bytes (gives tt)

-- this reading alone
unfoldable pub read : {E : Type 0} → (wanted : Wanted) → (Fault wanted → CutOff E) → Interaction E (Reply wanted)
read wanted cut = reads wanted cut (λ reply. gives reply)

-- this entry alone
unfoldable pub ask : {E : Type 0} → Request → Interaction E OwnEntry
ask request = asks request (λ own. gives own)

-- how an input that ends is taken, with another end
abbrev pub cut_as : {E F : Type 0} → (E → F) → CutOff E → CutOff F
cut_as end_as cut = record { bytes = cut.bytes; end = end_as cut.end }

-- the same interaction with other ends
unfoldable pub ending_as : {E F A : Type 0} → (E → F) → Interaction E A → Interaction F A
ending_as end_as (gives a) = gives a
ending_as end_as (ends e) = ends (end_as e)
ending_as end_as (writes bytes t) = writes bytes (ending_as end_as t)
ending_as end_as (reads wanted cut f) = reads wanted (λ fault. cut_as end_as (cut fault)) (λ reply. ending_as end_as (f reply))
ending_as end_as (asks request f) = asks request (λ own. ending_as end_as (f own))

-- the end of an input inside what is wanted
abbrev pub cutting_off : {E A : Type 0} → CutOff E → Interaction E A
cutting_off cut = writes cut.bytes (ends cut.end)

-- by what was read of a part: the one where the part ended inside what is wanted, the other where that was
-- decided
abbrev pub by_part : {V F X : Type 0} → (F → X) → (Result V F → X) → Result (Result V F) F → X
by_part cut decided (Ok (Ok value)) = decided (Ok value)
by_part cut decided (Ok (Err fault)) = cut fault
by_part cut decided (Err fault) = decided (Err fault)

-- the same interaction over the first so many bytes of the input, as if it ended there
unfoldable pub limits : {E A : Type 0} → ℕ → Interaction E A → Interaction E A
limits most (gives a) = gives a
limits most (ends e) = ends e
limits most (writes bytes t) = writes bytes (limits most t)
limits zero (reads wanted cut f) = by_front (front_of wanted []) (λ fault. cutting_off (cut fault)) (λ used found. limits zero (f (record { used = used; found = found })))
limits (suc most) (reads wanted cut f) = reads (Within most wanted) cut (λ reply. by_part
    (λ fault. cutting_off (cut fault))
    (λ found. limits (suc most - reply.used) (f (record { used = reply.used; found = found })))
    reply.found)
limits most (asks request f) = asks request (λ own. limits most (f own))
