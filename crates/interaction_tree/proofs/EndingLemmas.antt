-- What code keeps that ran an interaction, by its end.
use Rattle.std.proofs.Common.{◌≡◌, ◌⊎◌, inl, inr, ℕ, false, List, [], ◌++◌, Option, None, Some, Err, refl, ap, subst}
use Rattle.std.specs.Bool.{⊤}
use Rattle.std.specs.Io.KnownBytes.{IsAtEnd, Consumes}
use Rattle.base_types.specs.Counts.{HasRisen}
use Rattle.pktline_core.specs.LinkState.{LinkState}
use Rattle.hub.specs.Desk.{DeskView}
use Rattle.interaction_tree.specs.Interaction.{Interaction}
use Rattle.interaction_tree.specs.Traces.{Halt, Reading, Writing, Memory, Ended, Failed}
use Rattle.interaction_tree.specs.Runs.{Runs}
use Rattle.interaction_tree.specs.Order.{IsOrdered}
use Rattle.interaction_tree.specs.Turns.{Turn}
use Rattle.interaction_tree.specs.Endings.{IsInput, TakesTurn, used_of}
use Rattle.interaction_tree.specs.Growth.{own_since}
use Rattle.interaction_tree.specs.Requests.{OwnEntry}
use Rattle.interaction_tree.proofs.DeskLemmas.{made_since}
use Rattle.interaction_tree.proofs.TurnLemmas.{trace_ended, trace_reading, writing_used, memory_used, trace_short, trace_lacked}
use Rattle.interaction_tree.proofs.WrittenLemmas.{writing_before, memory_before}
use Rattle.interaction_tree.proofs.OrderLemmas.{trace_writing}

left_of : Option (List ℕ) → List ℕ
left_of None = []
left_of (Some bytes) = bytes

none_left : (left : Option (List ℕ)) → IsAtEnd left → left_of left ≡ []
unfolding left_of
none_left None over = refl
none_left (Some bytes) over = over

is_input : (a b : Option (List ℕ)) (read : List ℕ) → Consumes a b read → IsInput a (read ++ left_of b)
unfolding left_of
is_input None b read consumed = tt
is_input (Some xs) None read consumed = absurd consumed
is_input (Some xs) (Some ys) read consumed = consumed

runs_meets : {E A : Type 0} (a b : LinkState) (d e : DeskView) (t : Interaction E A) (halt : Halt E) → IsOrdered t → (p : Runs a b d e t (Err halt)) → TakesTurn a b p.own t halt
runs_meets a b d e t (Ended end) ordered p =
    let is = trace_ended b.left end t p.read p.written p.own (left_of b.left) (none_left b.left) p.trace in
    record {
      input = p.read ++ left_of b.left;
      told = is_input a.left b.left p.read p.consumed;
      read = rw is p.consumed;
      counted = rw is p.counted;
      entries = rw is refl;
      written = rw is p.appended;
      end_is = rw is refl;
    }
runs_meets a b d e t (Failed Reading) ordered p =
    let is = trace_reading b.left t p.read p.written p.own p.trace in
    record { part = p.read; read = p.consumed; counted = p.counted; used = rw is refl; waits = rw is refl; entries = rw is refl; written = rw is p.appended; risen = p.caused.0; may_fail = p.caused.1 }
runs_meets a b d e t (Failed Writing) ordered p =
    let short = trace_short b.left t p.read p.written p.own p.trace in
    record {
      part = p.read;
      bytes = p.written;
      extent = short.0;
      is_extent = short.1;
      read = p.consumed;
      counted = p.counted;
      used = writing_used short.0 b.left t p.read p.written p.own p.trace;
      entries = trace_writing false b.left t (λ w x. ⊤) p.read p.written p.own ordered p.trace;
      written = p.appended;
      short = short.2;
      before = writing_before b.left t p.read p.written p.own p.trace;
      risen = p.caused.0;
      may_fail = p.caused.1;
    }
runs_meets a b d e t (Failed Memory) ordered p =
    let begins = trace_lacked b.left t p.read p.written p.own p.trace in
    record {
      part = p.read;
      bytes = p.written;
      extent = begins.0;
      is_extent = begins.1;
      read = p.consumed;
      counted = p.counted;
      used = memory_used begins.0 b.left t p.read p.written p.own p.trace;
      entries = begins.3;
      written = p.appended;
      begins = begins.2;
      before = memory_before b.left t p.read p.written p.own p.trace;
    }

pub runs_turn : {E A : Type 0} (a b : LinkState) (d e : DeskView) (t : Interaction E A) (halt : Halt E) → IsOrdered t → Runs a b d e t (Err halt) → TakesTurn a b (own_since d e) t halt
runs_turn a b d e t halt ordered p = subst (λ (own : List OwnEntry). TakesTurn a b own t halt) (made_since d e p.own p.made) (runs_meets a b d e t halt ordered p)

-- what was used of the input is what was read
used_meets : {E A : Type 0} (a b : LinkState) (d e : DeskView) (t : Interaction E A) (halt : Halt E) (ordered : IsOrdered t) (p : Runs a b d e t (Err halt)) → used_of a b p.own t halt (runs_meets a b d e t halt ordered p) ≡ p.read
unfolding runs_meets
used_meets {E} {A} a b d e t (Ended end) ordered p = ap (λ (u : Turn E A). u.used) (trace_ended b.left end t p.read p.written p.own (left_of b.left) (none_left b.left) p.trace)
used_meets a b d e t (Failed Reading) ordered p = refl
used_meets a b d e t (Failed Writing) ordered p = refl
used_meets a b d e t (Failed Memory) ordered p = refl

pub runs_turn_read : {E A : Type 0} (a b : LinkState) (d e : DeskView) (t : Interaction E A) (halt : Halt E) → IsOrdered t → (p : Runs a b d e t (Err halt))
    → (it : TakesTurn a b (own_since d e) t halt) × (used_of a b (own_since d e) t halt it ≡ p.read)
runs_turn_read a b d e t halt ordered p =
    subst (λ (own : List OwnEntry). (it : TakesTurn a b own t halt) × (used_of a b own t halt it ≡ p.read)) (made_since d e p.own p.made) (runs_meets a b d e t halt ordered p, used_meets a b d e t halt ordered p)

pub ends_or_lacks : {E A : Type 0} (a b : LinkState) (own : List OwnEntry) (t : Interaction E A) (halt : Halt E) → (HasRisen a.read_faults b.read_faults → ⊥) → (HasRisen a.write_faults b.write_faults → ⊥) → TakesTurn a b own t halt
    → ((end : E) × (halt ≡ Ended end)) ⊎ (halt ≡ Failed Memory)
ends_or_lacks a b own t (Ended end) reads writes turn = inl (end, refl)
ends_or_lacks a b own t (Failed Reading) reads writes turn = absurd (reads turn.risen)
ends_or_lacks a b own t (Failed Writing) reads writes turn = absurd (writes turn.risen)
ends_or_lacks a b own t (Failed Memory) reads writes turn = inr refl
