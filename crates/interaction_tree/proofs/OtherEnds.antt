-- Interactions with other ends.
use Rattle.std.proofs.Common.{◌≡◌, inl, inr, ℕ, Bool, true, false, List, [], ◌∷◌, take, drop, Option, Result, Ok, Err, refl, ap}
use Rattle.base_types.specs.Fronts.{Front, Whole, Broken, Partial}
use Rattle.pktline_core.specs.LinkState.{LinkState}
use Rattle.hub.specs.Desk.{DeskView}
use Rattle.interaction_tree.specs.Wanted.{front_of, by_front}
use Rattle.interaction_tree.specs.Requests.{OwnEntry}
use Rattle.interaction_tree.specs.Interaction.{CutOff, Interaction, gives, ends, writes, reads, asks, ◌>>=◌, cut_as, ending_as}
use Rattle.interaction_tree.specs.Turns.{Extent, Closed, Open, Turn, after_asking, after_reading, after_writing, cut_off, turn_as, turn_over}
use Rattle.interaction_tree.specs.Traces.{Reading, Writing, Memory, Halt, Ended, Failed, IsTrace, StandsStill, outcome_as}
use Rattle.interaction_tree.specs.Runs.{IsCaused, Runs}
use Rattle.interaction_tree.specs.Order.{EntriesFirst}

module _ {E F : Type 0} (end_as : E → F) where
  -- ---- one, and then another

  pub both_as : {A B : Type 0} (t : Interaction E A) (k : A → Interaction E B) → ending_as end_as (t >>= k) ≡ ending_as end_as t >>= λ a. ending_as end_as (k a)
  unfolding ending_as ◌>>=◌
  both_as (gives a) k = refl
  both_as (ends e) k = refl
  both_as (writes bytes t) k = ap (writes bytes) (both_as t k)
  both_as (reads wanted cut f) k = λ i. reads wanted (λ fault. cut_as end_as (cut fault)) (λ reply. both_as (f reply) k i)
  both_as (asks request f) k = λ i. asks request (λ own. both_as (f own) k i)

  -- ---- turns

  cut_off_as : {A : Type 0} (extent : Extent) (input : List ℕ) (cut : CutOff E) → cut_off {A = A} extent input (cut_as end_as cut) ≡ turn_as end_as (cut_off extent input cut)
  cut_off_as Closed input cut = refl
  cut_off_as Open input cut = refl

  by_front_as : {V G A : Type 0} (at : Front V G) (cut : G → Turn E A) (cut' : G → Turn F A) (go : ℕ → Result V G → Turn E A) (go' : ℕ → Result V G → Turn F A)
      → ((fault : G) → cut' fault ≡ turn_as end_as (cut fault)) → ((used : ℕ) (found : Result V G) → go' used found ≡ turn_as end_as (go used found))
      → by_front at cut' go' ≡ turn_as end_as (by_front at cut go)
  by_front_as (Whole used value) cut cut' go go' a b = b used (Ok value)
  by_front_as (Broken used fault) cut cut' go go' a b = b used (Err fault)
  by_front_as (Partial fault) cut cut' go go' a b = a fault

  pub turn_ends_as : {A : Type 0} (extent : Extent) (t : Interaction E A) (input : List ℕ) (own : List OwnEntry) → turn_over extent (ending_as end_as t) input own ≡ turn_as end_as (turn_over extent t input own)
  unfolding ending_as turn_over
  turn_ends_as extent (gives a) input own = refl
  turn_ends_as extent (ends e) input own = refl
  turn_ends_as extent (writes bytes t) input own = ap (after_writing bytes) (turn_ends_as extent t input own)
  turn_ends_as {A} extent (reads wanted cut f) input own =
      by_front_as (front_of wanted input) (λ fault. cut_off {A = A} extent input (cut fault)) (λ fault. cut_off {A = A} extent input (cut_as end_as (cut fault)))
      (λ used found. after_reading (take used input) (turn_over extent (f (record { used = used; found = found })) (drop used input) own))
      (λ used found. after_reading (take used input) (turn_over extent (ending_as end_as (f (record { used = used; found = found }))) (drop used input) own))
      (λ fault. cut_off_as extent input (cut fault))
      (λ used found. ap (after_reading (take used input)) (turn_ends_as extent (f (record { used = used; found = found })) (drop used input) own))
  turn_ends_as extent (asks request f) input [] = refl
  turn_ends_as extent (asks request f) input (one ∷ own) = ap (after_asking request) (turn_ends_as extent (f one) input own)

  -- ---- the order

  pub order_as : {A : Type 0} (wrote : Bool) (t : Interaction E A) (then : Bool → A → Type 0) → EntriesFirst wrote t then → EntriesFirst wrote (ending_as end_as t) then
  unfolding ending_as EntriesFirst
  order_as wrote (gives a) then p = p
  order_as wrote (ends e) then p = p
  order_as wrote (writes bytes t) then p = order_as true t then p
  order_as wrote (reads wanted cut f) then p = λ reply. order_as false (f reply) then (p reply)
  order_as wrote (asks request f) then p = (p.0, λ own. order_as wrote (f own) then (p.1 own))

  -- ---- what code does

  still_as : {A : Type 0} (left : Option (List ℕ)) (out : Result A (Halt E)) (t : Interaction E A) (read written : List ℕ) → StandsStill left out t read written
      → StandsStill left (outcome_as end_as out) (ending_as end_as t) read written
  unfolding ending_as
  still_as left (Ok a) (gives b) read written p = p
  still_as left (Ok a) (ends e) read written p = absurd p
  still_as left (Ok a) (writes bytes t) read written p = absurd p
  still_as left (Ok a) (reads wanted cut f) read written p = absurd p
  still_as left (Ok a) (asks request f) read written p = absurd p
  still_as left (Err (Ended e)) (gives a) read written p = absurd p
  still_as left (Err (Ended e)) (ends e') read written p = (ap end_as p.0, p.1, p.2)
  still_as left (Err (Ended e)) (writes bytes t) read written p = absurd p
  still_as left (Err (Ended e)) (reads wanted cut f) read written p = (p.0, p.1, ap end_as p.2, p.3)
  still_as left (Err (Ended e)) (asks request f) read written p = absurd p
  still_as left (Err (Failed Reading)) (gives a) read written p = absurd p
  still_as left (Err (Failed Reading)) (ends e) read written p = absurd p
  still_as left (Err (Failed Reading)) (writes bytes t) read written p = absurd p
  still_as left (Err (Failed Reading)) (reads wanted cut f) read written p = p
  still_as left (Err (Failed Reading)) (asks request f) read written p = absurd p
  still_as left (Err (Failed Writing)) (gives a) read written p = absurd p
  still_as left (Err (Failed Writing)) (ends e) read written p = absurd p
  still_as left (Err (Failed Writing)) (writes bytes t) read written p = p
  still_as left (Err (Failed Writing)) (reads wanted cut f) read written p = p
  still_as left (Err (Failed Writing)) (asks request f) read written p = absurd p
  still_as left (Err (Failed Memory)) (gives a) read written p = p
  still_as left (Err (Failed Memory)) (ends e) read written p = p
  still_as left (Err (Failed Memory)) (writes bytes t) read written p = p
  still_as left (Err (Failed Memory)) (reads wanted cut f) read written p = p
  still_as left (Err (Failed Memory)) (asks request f) read written p = p

  pub trace_as : {A : Type 0} (left : Option (List ℕ)) (out : Result A (Halt E)) (t : Interaction E A) (read written : List ℕ) (own : List OwnEntry) → IsTrace left out t read written own
      → IsTrace left (outcome_as end_as out) (ending_as end_as t) read written own
  unfolding ending_as
  trace_as left out (gives a) read written own p = (still_as left out (gives a) read written p.0, p.1)
  trace_as left out (ends e) read written own p = (still_as left out (ends e) read written p.0, p.1)
  trace_as left out (writes bytes t) read written own (inl p) = inl (still_as left out (writes bytes t) read written p.0, p.1)
  trace_as left out (writes bytes t) read written own (inr p) = inr (p.0, p.1, trace_as left out t read p.0 own p.2)
  trace_as left out (reads wanted cut f) read written own (inl p) = inl (still_as left out (reads wanted cut f) read written p.0, p.1)
  trace_as left out (reads wanted cut f) read written own (inr p) = inr (p.0, p.1, p.2, p.3, p.4, trace_as left out (f _) p.1 written own p.5)
  trace_as left out (asks request f) read written own (inl p) = inl (still_as left out (asks request f) read written p.0, p.1)
  trace_as left out (asks request f) read written own (inr p) = inr (p.0, p.1, p.2, p.3, trace_as left out (f p.0) read written p.1 p.4)

  pub caused_as : {A : Type 0} (link link' : LinkState) (out : Result A (Halt E)) → IsCaused link link' out → IsCaused link link' (outcome_as end_as out)
  caused_as link link' (Ok a) p = p
  caused_as link link' (Err (Ended e)) p = p
  caused_as link link' (Err (Failed Reading)) p = p
  caused_as link link' (Err (Failed Writing)) p = p
  caused_as link link' (Err (Failed Memory)) p = p

  pub runs_as : {A : Type 0} (link link' : LinkState) (desk desk' : DeskView) (t : Interaction E A) (out : Result A (Halt E)) → Runs link link' desk desk' t out
      → Runs link link' desk desk' (ending_as end_as t) (outcome_as end_as out)
  runs_as link link' desk desk' t out p = record {
    read = p.read;
    written = p.written;
    own = p.own;
    consumed = p.consumed;
    counted = p.counted;
    appended = p.appended;
    made = p.made;
    trace = trace_as link'.left out t p.read p.written p.own p.trace;
    later = p.later;
    caused = caused_as link link' out p.caused;
  }
