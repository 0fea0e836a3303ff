-- What a session keeps, by its end.
use Rattle.std.specs.Prelude.{◌≡◌, ⊤, ℕ, ◌+◌, List, length, IsTrue, map, Option, None, Some}
use Rattle.std.specs.Io.KnownBytes.{Consumes, Appends, IsAtEnd}
use Rattle.base_types.specs.Counts.{HasRisen}
use Rattle.pktline_core.specs.LinkState.{LinkState}
use Rattle.interaction_tree.specs.Requests.{OwnEntry, asked}
use Rattle.interaction_tree.specs.Interaction.{Interaction}
use Rattle.interaction_tree.specs.Turns.{Extent, Closed, Open, turn_over, turn, due}
use Rattle.interaction_tree.specs.Turns as stop
use Rattle.interaction_tree.specs.Traces.{Reading, Writing, Memory, Halt, Ended, Failed, Begins, FallsShort}

-- the link's input, where it tells it
abbrev pub IsInput : Option (List ℕ) → List ℕ → Type 0
IsInput None input = ⊤
IsInput (Some bytes) input = bytes ≡ input

-- A part of an input is taken for its end only where nothing is left.
abbrev pub IsExtent : Option (List ℕ) → Extent → Type 0
IsExtent left Closed = IsAtEnd left
IsExtent left Open = ⊤

-- What was read is the used beginning of the input, the own entries are the ones due, what was written are
-- the bytes due, and the end is the turn's.
pub record EndsAsDue {E A : Type 0} (link link' : LinkState) (own : List OwnEntry) (t : Interaction E A) (end : E) : Type 0 where
  pub input : List ℕ
  pub told : IsInput link.left input
  pub read : Consumes link.left link'.left (turn t input own).used
  pub counted : link'.given ≡ link.given + length (turn t input own).used
  pub entries : map asked own ≡ (turn t input own).requests
  pub written : Appends link.written link'.written (turn t input own).bytes
  pub end_is : (turn t input own).stop ≡ stop.Ended end

-- After a part of the input a read failed where more is wanted, and all of that part is used. What was
-- written is due of it, and the own entries are the ones due by it.
pub record FailsReading {E A : Type 0} (link link' : LinkState) (own : List OwnEntry) (t : Interaction E A) : Type 0 where
  pub part : List ℕ
  pub read : Consumes link.left link'.left part
  pub counted : link'.given ≡ link.given + length part
  pub used : (due t part own).used ≡ part
  pub waits : (due t part own).stop ≡ stop.Waiting
  pub entries : map asked own ≡ (due t part own).requests
  pub written : Appends link.written link'.written (due t part own).bytes
  pub risen : HasRisen link.read_faults link'.read_faults
  pub may_fail : IsTrue link.may_fail

-- After a part of the input a write failed, and all of that part is used. The own entries are the ones due by
-- it, and what was written falls short of what is due of it or, where all of the input was read, of the
-- whole; what is due of each shorter part was written before more was read.
pub record FailsWriting {E A : Type 0} (link link' : LinkState) (own : List OwnEntry) (t : Interaction E A) : Type 0 where
  pub part : List ℕ
  pub bytes : List ℕ
  pub extent : Extent
  pub is_extent : IsExtent link'.left extent
  pub read : Consumes link.left link'.left part
  pub counted : link'.given ≡ link.given + length part
  pub used : (turn_over extent t part own).used ≡ part
  pub entries : map asked own ≡ (due t part own).requests
  pub written : Appends link.written link'.written bytes
  pub short : FallsShort bytes (turn_over extent t part own).bytes
  pub before : (front : List ℕ) → FallsShort front part → Begins (due t front own).bytes bytes
  pub risen : HasRisen link.write_faults link'.write_faults
  pub may_fail : IsTrue link.may_fail

-- After a part of the input memory lacked, and all of that part is used. The own entries begin the ones due
-- by it, and what was written begins what is due of it or, where all of the input was read, of the whole;
-- what is due of each shorter part was written before more was read.
pub record LacksMemory {E A : Type 0} (link link' : LinkState) (own : List OwnEntry) (t : Interaction E A) : Type 0 where
  pub part : List ℕ
  pub bytes : List ℕ
  pub extent : Extent
  pub is_extent : IsExtent link'.left extent
  pub read : Consumes link.left link'.left part
  pub counted : link'.given ≡ link.given + length part
  pub used : (turn_over extent t part own).used ≡ part
  pub entries : Begins (map asked own) (due t part own).requests
  pub written : Appends link.written link'.written bytes
  pub begins : Begins bytes (turn_over extent t part own).bytes
  pub before : (front : List ℕ) → FallsShort front part → Begins (due t front own).bytes bytes

-- a session took its turn, with these entries of its own: what holds, by its end
abbrev pub TakesTurn : {E A : Type 0} → LinkState → LinkState → List OwnEntry → Interaction E A → Halt E → Type 0
TakesTurn link link' own t (Ended end) = EndsAsDue link link' own t end
TakesTurn link link' own t (Failed Reading) = FailsReading link link' own t
TakesTurn link link' own t (Failed Writing) = FailsWriting link link' own t
TakesTurn link link' own t (Failed Memory) = LacksMemory link link' own t

-- the bytes that were used, by the end
abbrev pub used_of : {E A : Type 0} (link link' : LinkState) (own : List OwnEntry) (t : Interaction E A) (halt : Halt E) → TakesTurn link link' own t halt → List ℕ
used_of link link' own t (Ended end) it = (turn t it.input own).used
used_of link link' own t (Failed Reading) it = it.part
used_of link link' own t (Failed Writing) it = it.part
used_of link link' own t (Failed Memory) it = it.part
