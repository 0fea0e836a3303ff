-- An interaction over the first bytes of an input.
use Rattle.std.proofs.Common.{◌≡◌, ◌⊎◌, inl, inr, ℕ, zero, suc, ◌+◌, ◌-◌, ◌≤◌, nat_le, Bool, true, false, List, [], ◌∷◌, ◌++◌, length, take, drop, if◌then◌else◌, Option, None, Some, Result, Ok, Err, refl, sym, ◌∙◌, ap, subst, arith, length-append, length-take}
use Rattle.std.specs.Bool.{⊤}
use Rattle.std.specs.Option.{option_map}
use Rattle.std.specs.Io.KnownBytes.{IsAtEnd}
use Rattle.std.proofs.lemmas.Bool.{le-leb, lt-leb}
use Rattle.std.proofs.lemmas.List.{append-nil, take_all, take-take, nil_from_length, drop-take, length-drop}
use Rattle.base_types.specs.Fronts.{Front, Whole, Broken, Partial}
use Rattle.raw_pack.specs.Reading.{IsNoMore}
use Rattle.interaction_tree.specs.Wanted.{Wanted, Within, of_part, Value, Fault, front_of, Reply, shown, by_front}
use Rattle.hub_history.specs.Requests.{Request}
use Rattle.interaction_tree.specs.Requests.{OwnEntry}
use Rattle.interaction_tree.specs.Interaction.{CutOff, Interaction, gives, ends, writes, reads, asks, limits, cutting_off, by_part}
use Rattle.interaction_tree.specs.Traces.{Reading, Writing, Memory, Halt, Ended, Failed, Begins, FallsShort, IsCutOff, StandsStill, IsTrace}
use Rattle.interaction_tree.specs.Order.{EntriesFirst, IsOrdered}
use Rattle.interaction_tree.specs.Turns.{Extent, Closed, Turn, turn_over, cut_off, after_reading, after_writing, after_asking}
use Rattle.interaction_tree.specs.Turns as stop
use Rattle.interaction_tree.proofs.FrontLemmas.{nothing_there, shown_within, turn_cut, turn_decided}

-- I. Traces

-- where a read failed, memory may have lacked
pub trace_unread : {E A : Type 0} (left : Option (List ℕ)) (t : Interaction E A) (read written : List ℕ) (own : List OwnEntry) → IsTrace left (Err (Failed Reading)) t read written own → IsTrace left (Err (Failed Memory)) t read written own
trace_unread left (gives a) read written own p = absurd p.0
trace_unread left (ends e) read written own p = absurd p.0
trace_unread left (writes bytes t) read written own (inl p) = absurd p.0
trace_unread left (writes bytes t) read written own (inr p) = inr (p.0, p.1, trace_unread left t read p.0 own p.2)
trace_unread left (reads wanted cut f) read written own (inl p) =
    inl (inl (p.0.2, subst (λ (at : Front (Value wanted) (Fault wanted)). IsNoMore at (length read)) (sym p.0.1) tt), p.1)
trace_unread left (reads wanted cut f) read written own (inr p) =
    inr (p.0, p.1, p.2, p.3, p.4, trace_unread left (f (record { used = length p.0; found = p.2 })) p.1 written own p.5)
trace_unread left (asks request f) read written own (inl p) = absurd p.0
trace_unread left (asks request f) read written own (inr p) = inr (p.0, p.1, p.2, p.3, trace_unread left (f p.0) read written p.1 p.4)

-- the link itself is at its end, where a part of it is before that part's end
end_behind : (left : Option (List ℕ)) (rest : ℕ) → IsAtEnd (option_map (take (suc rest)) left) → IsAtEnd left
end_behind None rest over = tt
end_behind (Some []) rest over = refl
end_behind (Some (x ∷ bytes)) rest over = absurd cc

-- what is due where an input ends, by how code was left there
abbrev Left : {E A : Type 0} → Result A (Halt E) → CutOff E → List ℕ → Type 0
Left (Ok a) cut written = ⊥
Left (Err (Ended e)) cut written = (e ≡ cut.end) × (written ≡ cut.bytes)
Left (Err (Failed Reading)) cut written = ⊥
Left (Err (Failed Writing)) cut written = FallsShort written cut.bytes
Left (Err (Failed Memory)) cut written = Begins written cut.bytes

cut_trace : {E A : Type 0} (left : Option (List ℕ)) (out : Result A (Halt E)) (cut : CutOff E) (written : List ℕ) (own : List OwnEntry) → own ≡ [] → Left out cut written → IsTrace left out (cutting_off cut) [] written own
cut_trace left (Ok a) cut written own none p = absurd p
cut_trace left (Err (Ended e)) cut written own none p = inr ([], p.1 ∙ sym (append-nil cut.bytes), ((p.0, refl, refl), none))
cut_trace left (Err (Failed Reading)) cut written own none p = absurd p
cut_trace left (Err (Failed Writing)) cut written own none p = inl ((refl, p), none)
cut_trace left (Err (Failed Memory)) cut written own none p = inl ((refl, p), none)

same_fault : {V F : Type 0} (one other : F) → ◌≡◌ {A = Front V F} (Partial one) (Partial other) → one ≡ other
same_fault one other is = cc

not_there : {V F : Type 0} (fault : F) (n : ℕ) (found : Result V F) → ◌≡◌ {A = Front V F} (Partial fault) (shown n found) → ⊥
not_there fault n (Ok value) is = absurd cc
not_there fault n (Err other) is = absurd cc

-- what stands at the front of a part that is all of it
module _ (wanted : Wanted) (most : ℕ) (read : List ℕ) (few : length read ≤ suc most) where
  part_is : front_of (Within most wanted) read ≡ of_part (suc most) read (front_of wanted read)
  unfolding front_of
  part_is = ap (λ (l : List ℕ). of_part (suc most) read (front_of wanted l)) (take_all (suc most) read few)

  part_shown : {X : Type 0} (cut : Fault wanted → X) (go : Result (Value wanted) (Fault wanted) → X) (found : Result (Value wanted) (Fault wanted)) → front_of wanted read ≡ shown (length read) found
      → (all : Result (Result (Value wanted) (Fault wanted)) (Fault wanted)) × (front_of (Within most wanted) read ≡ shown (length read) all) × (by_part cut go all ≡ go found)
  part_shown cut go (Ok value) is = (Ok (Ok value), part_is ∙ ap (of_part (suc most) read) is, refl)
  part_shown cut go (Err fault) is = (Err fault, part_is ∙ ap (of_part (suc most) read) is, refl)

  -- where that ended inside what is wanted
  part_cut : (fault : Fault wanted) → front_of wanted read ≡ Partial fault → length read ≡ suc most → front_of (Within most wanted) read ≡ shown (length read) (Ok (Err fault))
  part_cut fault is all =
      part_is ∙ ap (of_part (suc most) read) is
      ∙ rw (le-leb (suc most) (length read) (omega (arith, all))) (ap (λ (n : ℕ). Whole n (Err fault)) (sym all))

  part_open : (fault : Fault wanted) → front_of wanted read ≡ Partial fault → length read ≤ most → front_of (Within most wanted) read ≡ Partial fault
  part_open fault is less = part_is ∙ ap (of_part (suc most) read) is ∙ rw (lt-leb (suc most) (length read) (omega (arith, less))) refl

  no_more_part : IsNoMore (front_of wanted read) (length read) → IsNoMore (front_of (Within most wanted) read) (length read)
  no_more_part p = subst (λ at. IsNoMore at (length read)) (sym part_is) (by (front_of wanted read) p)
    where
      by : (at : Front (Value wanted) (Fault wanted)) → IsNoMore at (length read) → IsNoMore (of_part (suc most) read at) (length read)
      by (Whole n value) q = q
      by (Broken n fault) q = q
      by (Partial fault) q = cond_no_more (nat_le (suc most) (length read)) fault
        where
          cond_no_more : (b : Bool) (it : Fault wanted) → IsNoMore {V = Result (Value wanted) (Fault wanted)} (if b then Whole (suc most) (Err it) else Partial it) (length read)
          cond_no_more true it = few
          cond_no_more false it = tt

-- where code stands still before it wrote, that doesn't depend on what follows, nor on what is left
still_writes : {E A : Type 0} (left left' : Option (List ℕ)) (out : Result A (Halt E)) (bytes : List ℕ) (t u : Interaction E A) (read written : List ℕ) (own : List OwnEntry)
    → StandsStill left out (writes bytes t) read written → StandsStill left' out (writes bytes u) read written
still_writes left left' (Ok a) bytes t u read written own p = absurd p
still_writes left left' (Err (Ended e)) bytes t u read written own p = absurd p
still_writes left left' (Err (Failed Reading)) bytes t u read written own p = absurd p
still_writes left left' (Err (Failed Writing)) bytes t u read written own p = p
still_writes left left' (Err (Failed Memory)) bytes t u read written own p = p

-- before an entry
still_asks : {E A : Type 0} (left left' : Option (List ℕ)) (out : Result A (Halt E)) (request : Request) (f g : OwnEntry → Interaction E A) (read written : List ℕ)
    → StandsStill left out (asks request f) read written → StandsStill left' out (asks request g) read written
still_asks left left' (Ok a) request f g read written p = absurd p
still_asks left left' (Err (Ended e)) request f g read written p = absurd p
still_asks left left' (Err (Failed Reading)) request f g read written p = absurd p
still_asks left left' (Err (Failed Writing)) request f g read written p = absurd p
still_asks left left' (Err (Failed Memory)) request f g read written p = p

-- inside what is wanted
module _ {E A : Type 0} (left : Option (List ℕ)) (wanted : Wanted) (cut : Fault wanted → CutOff E) (f : Reply wanted → Interaction E A) (read written : List ℕ) (own : List OwnEntry) (none : own ≡ []) where
  -- where nothing more may be read at all
  none_left : (out : Result A (Halt E)) → (fault : Fault wanted) → front_of wanted [] ≡ Partial fault → read ≡ [] → Left out (cut fault) written → IsTrace left out (limits zero (reads wanted cut f)) read written own
  unfolding limits
  none_left out fault is nothing p =
      subst (λ (l : List ℕ). IsTrace left out (limits zero (reads wanted cut f)) l written own) (sym nothing)
      (subst (λ (at : Front (Value wanted) (Fault wanted)). IsTrace left out (by_front at (λ fault. cutting_off (cut fault)) (λ used found. limits zero (f (record { used = used; found = found })))) [] written own) (sym is) (cut_trace left out (cut fault) written own none p))

  -- where the part ended
  module _ (most : ℕ) (few : length read ≤ suc most) where
    spent : (out : Result A (Halt E)) (fault : Fault wanted) → front_of wanted read ≡ Partial fault → length read ≡ suc most → Left out (cut fault) written → IsTrace left out (limits (suc most) (reads wanted cut f)) read written own
    unfolding limits
    spent out fault is all p = inr (read, [], Ok (Err fault), sym (append-nil read), part_cut wanted most read few fault is all, cut_trace left out (cut fault) written own none p)

    in_part : (out : Result A (Halt E)) (rest : ℕ) → length read + rest ≡ suc most → (rest ≡ 0 → out ≡ Err (Failed Reading) → ⊥) → StandsStill (option_map (take rest) left) out (reads wanted cut f) read written
        → IsTrace left out (limits (suc most) (reads wanted cut f)) read written own
    unfolding limits
    in_part (Ok a) rest count whole p = absurd p
    in_part (Err (Ended e)) zero count whole p = spent (Err (Ended e)) p.0 p.1.0 (omega (arith, count)) (p.2, p.3)
    in_part (Err (Ended e)) (suc rest) count whole p = inl ((p.0, (part_open wanted most read few p.0 p.1.0 (omega (arith, count)), end_behind left rest p.1.1), p.2, p.3), none)
    in_part (Err (Failed Reading)) zero count whole p = absurd (whole refl refl)
    in_part (Err (Failed Reading)) (suc rest) count whole p = inl ((p.0, part_open wanted most read few p.0 p.1 (omega (arith, count)), p.2), none)
    in_part (Err (Failed Writing)) zero count whole p = spent (Err (Failed Writing)) p.0 p.1.0 (omega (arith, count)) p.2
    in_part (Err (Failed Writing)) (suc rest) count whole p = inl ((p.0, (part_open wanted most read few p.0 p.1.0 (omega (arith, count)), end_behind left rest p.1.1), p.2), none)
    in_part (Err (Failed Memory)) rest count whole (inl p) = inl (inl (p.0, no_more_part wanted most read few p.1), none)
    in_part (Err (Failed Memory)) zero count whole (inr p) = spent (Err (Failed Memory)) p.0 p.1.0 (omega (arith, count)) p.2
    in_part (Err (Failed Memory)) (suc rest) count whole (inr p) = inl (inr (p.0, (part_open wanted most read few p.0 p.1.0 (omega (arith, count)), end_behind left rest p.1.1), p.2), none)

  before_any : (out : Result A (Halt E)) (rest : ℕ) → read ≡ [] → rest ≡ 0 → (rest ≡ 0 → out ≡ Err (Failed Reading) → ⊥) → StandsStill (option_map (take rest) left) out (reads wanted cut f) read written
      → IsTrace left out (limits zero (reads wanted cut f)) read written own
  before_any (Ok a) rest nothing all whole p = absurd p
  before_any (Err (Ended e)) rest nothing all whole p = none_left (Err (Ended e)) p.0 (ap (front_of wanted) (sym nothing) ∙ p.1.0) nothing (p.2, p.3)
  before_any (Err (Failed Reading)) rest nothing all whole p = absurd (whole all refl)
  before_any (Err (Failed Writing)) rest nothing all whole p = none_left (Err (Failed Writing)) p.0 (ap (front_of wanted) (sym nothing) ∙ p.1.0) nothing p.2
  before_any (Err (Failed Memory)) rest nothing all whole (inl p) =
      let there = nothing_there wanted in none_left (Err (Failed Memory)) there.0 there.1 nothing ((cut there.0).bytes, (λ i. sym p.0 i ++ (cut there.0).bytes))
  before_any (Err (Failed Memory)) rest nothing all whole (inr p) = none_left (Err (Failed Memory)) p.0 (ap (front_of wanted) (sym nothing) ∙ p.1.0) nothing p.2

-- Code that went along an interaction over the first so many bytes of what is left went along its limited one, but where a
-- read failed behind the last of them.
pub trace_limits : {E A : Type 0} (left : Option (List ℕ)) (out : Result A (Halt E)) (t : Interaction E A) (rest most : ℕ) (read written : List ℕ) (own : List OwnEntry)
    → length read + rest ≡ most → (rest ≡ 0 → out ≡ Err (Failed Reading) → ⊥) → IsTrace (option_map (take rest) left) out t read written own → IsTrace left out (limits most t) read written own
unfolding limits
trace_limits left (Ok b) (gives a) rest most read written own count whole p = p
trace_limits left (Err (Ended e)) (gives a) rest most read written own count whole p = absurd p.0
trace_limits left (Err (Failed Reading)) (gives a) rest most read written own count whole p = absurd p.0
trace_limits left (Err (Failed Writing)) (gives a) rest most read written own count whole p = absurd p.0
trace_limits left (Err (Failed Memory)) (gives a) rest most read written own count whole p = p
trace_limits left (Ok b) (ends e) rest most read written own count whole p = absurd p.0
trace_limits left (Err (Ended e')) (ends e) rest most read written own count whole p = p
trace_limits left (Err (Failed Reading)) (ends e) rest most read written own count whole p = absurd p.0
trace_limits left (Err (Failed Writing)) (ends e) rest most read written own count whole p = absurd p.0
trace_limits left (Err (Failed Memory)) (ends e) rest most read written own count whole p = p
trace_limits left out (writes bytes t) rest most read written own count whole (inl p) = inl (still_writes (option_map (take rest) left) left out bytes t (limits most t) read written own p.0, p.1)
trace_limits left out (writes bytes t) rest most read written own count whole (inr p) = inr (p.0, p.1, trace_limits left out t rest most read p.0 own count whole p.2)
trace_limits left out (reads wanted cut f) rest zero read written own count whole (inl p) =
    before_any left wanted cut f read written own p.1 out rest (nil_from_length read (omega (arith, count))) (omega (arith, count)) whole p.0
trace_limits left out (reads wanted cut f) rest zero read written own count whole (inr p) =
    let nothing : p.0 ≡ [] = nil_from_length p.0 (omega (arith, count, ap length p.3, length-append p.0 p.1)) in
    let there = nothing_there wanted in
    absurd (not_there there.0 (length p.0) p.2 (sym there.1 ∙ ap (front_of wanted) (sym nothing) ∙ p.4))
trace_limits left out (reads wanted cut f) rest (suc most) read written own count whole (inl p) =
    in_part left wanted cut f read written own p.1 most (omega (arith, count)) out rest count whole p.0
trace_limits {E} {A} left out (reads wanted cut f) rest (suc most) read written own count whole (inr p) =
    let lengths : length read ≡ length p.0 + length p.1 = ap length p.3 ∙ length-append p.0 p.1 in
    let go : Result (Value wanted) (Fault wanted) → Interaction E A = λ found. limits (suc most - length p.0) (f (record { used = length p.0; found = found })) in
    let shows = part_shown wanted most p.0 (omega (arith, count, lengths)) (λ fault. cutting_off {A = A} (cut fault)) go p.2 p.4 in
    inr (
      p.0,
      p.1,
      shows.0,
      p.3,
      shows.1,
      subst (λ (t : Interaction E A). IsTrace left out t p.1 written own) (sym shows.2)
          (trace_limits left out (f (record { used = length p.0; found = p.2 })) rest (suc most - length p.0) p.1 written own (omega (arith, count, lengths)) whole p.5),
    )
trace_limits left out (asks request f) rest most read written own count whole (inl p) = inl (still_asks (option_map (take rest) left) left out request f (λ own. limits most (f own)) read written p.0, p.1)
trace_limits left out (asks request f) rest most read written own count whole (inr p) = inr (p.0, p.1, p.2, p.3, trace_limits left out (f p.0) rest most read written p.1 count whole p.4)

-- II. The order

part_ordered : {E A : Type 0} (after : Bool → A → Type 0) {wanted : Wanted} (cut : Fault wanted → CutOff E) (f : Reply wanted → Interaction E A) (most used : ℕ)
    → ((it : Result (Value wanted) (Fault wanted)) → EntriesFirst false (limits (most - used) (f (record { used = used; found = it }))) after)
    → (found : Result (Result (Value wanted) (Fault wanted)) (Fault wanted))
    → EntriesFirst {E = E} {A = A} false (by_part (λ fault. cutting_off (cut fault)) (λ it. limits (most - used) (f (record { used = used; found = it }))) found) after
unfolding EntriesFirst
part_ordered after cut f most used go (Ok (Ok value)) = go (Ok value)
part_ordered after cut f most used go (Ok (Err fault)) = tt
part_ordered after cut f most used go (Err fault) = go (Err fault)

pub order_limits : {E A : Type 0} (wrote : Bool) (t : Interaction E A) (after : Bool → A → Type 0) (most : ℕ) → EntriesFirst wrote t after → EntriesFirst wrote (limits most t) after
unfolding EntriesFirst limits
order_limits wrote (gives a) after most p = p
order_limits wrote (ends e) after most p = tt
order_limits wrote (writes bytes t) after most p = order_limits true t after most p
order_limits {E} {A} wrote (reads wanted cut f) after zero p =
    let there = nothing_there wanted in
    subst (λ (at : Front (Value wanted) (Fault wanted)). EntriesFirst {E = E} {A = A} wrote (by_front at (λ fault. cutting_off (cut fault)) (λ used found. limits zero (f (record { used = used; found = found })))) after) (sym there.1) tt
order_limits {E} {A} wrote (reads wanted cut f) after (suc most) p =
    λ reply. part_ordered after cut f (suc most) reply.used
    (λ found. order_limits false (f (record { used = reply.used; found = found })) after (suc most - reply.used) (p (record { used = reply.used; found = found }))) reply.found
order_limits wrote (asks request f) after most p = (p.0, λ own. order_limits wrote (f own) after most (p.1 own))

-- III. Turns

at_end : {E A : Type 0} (extent : Extent) (input : List ℕ) (own : List OwnEntry) (cut : CutOff E) (part : List ℕ) → after_reading part (turn_over extent (cutting_off {A = A} cut) input own) ≡ cut_off Closed part cut
unfolding turn_over
at_end extent input own cut part = λ i. record { used = append-nil part i; requests = []; bytes = append-nil cut.bytes i; stop = stop.Ended cut.end }

module _ {E A : Type 0} (extent : Extent) (wanted : Wanted) (cut : Fault wanted → CutOff E) (f : Reply wanted → Interaction E A) (most : ℕ) (input : List ℕ) (own : List OwnEntry) where
  -- where the part is all there
  module _ (there : suc most ≤ length input)
      (go : (it : Reply wanted) (m : ℕ) (rest : List ℕ) → m ≤ length rest → turn_over extent (limits m (f it)) rest own ≡ turn_over Closed (f it) (take m rest) own) where
    whole_decided : (used : ℕ) (found : Result (Value wanted) (Fault wanted)) (all : Result (Result (Value wanted) (Fault wanted)) (Fault wanted))
        → front_of wanted (take (suc most) input) ≡ shown used found → front_of (Within most wanted) input ≡ shown used all
        → by_part (λ fault. cutting_off {A = A} (cut fault)) (λ it. limits (suc most - used) (f (record { used = used; found = it }))) all ≡ limits (suc most - used) (f (record { used = used; found = found }))
        → turn_over extent (limits (suc most) (reads wanted cut f)) input own ≡ turn_over Closed (reads wanted cut f) (take (suc most) input) own
    unfolding limits
    whole_decided used found all part_is all_is same =
        let few : used ≤ suc most = (let in_it = shown_within wanted (take (suc most) input) used found part_is in omega (arith, in_it, length-take (suc most) input)) in
        let both : used + (suc most - used) ≡ suc most = omega (arith, few) in
        let it : Reply wanted = record { used = used; found = found } in
        let front : take used (take (suc most) input) ≡ take used input = take-take used (suc most) input few in
        let back : drop used (take (suc most) input) ≡ take (suc most - used) (drop used input) = ap (λ (n : ℕ). drop used (take n input)) (sym both) ∙ drop-take used (suc most - used) input in
        turn_decided extent (Within most wanted) cut _ input own used all all_is
        ∙ ap (λ (t : Interaction E A). after_reading (take used input) (turn_over extent t (drop used input) own)) same
        ∙ ap (after_reading (take used input)) (go it (suc most - used) (drop used input) (omega (arith, there, length-drop used input)))
        ∙ (λ i. after_reading (sym front i) (turn_over Closed (f it) (sym back i) own))
        ∙ sym (turn_decided Closed wanted cut f (take (suc most) input) own used found part_is)

    within_is : (at : Front (Value wanted) (Fault wanted)) → front_of wanted (take (suc most) input) ≡ at → front_of (Within most wanted) input ≡ of_part (suc most) input at
    unfolding front_of
    within_is at is = ap (of_part (suc most) input) is

    part_turn : (at : Front (Value wanted) (Fault wanted)) → front_of wanted (take (suc most) input) ≡ at → turn_over extent (limits (suc most) (reads wanted cut f)) input own ≡ turn_over Closed (reads wanted cut f) (take (suc most) input) own
    unfolding limits
    part_turn (Whole used value) is = whole_decided used (Ok value) (Ok (Ok value)) is (within_is (Whole used value) is) refl
    part_turn (Broken used fault) is = whole_decided used (Err fault) (Err fault) is (within_is (Broken used fault) is) refl
    part_turn (Partial fault) is =
        turn_decided extent (Within most wanted) cut _ input own (suc most) (Ok (Err fault)) (within_is (Partial fault) is ∙ rw (le-leb (suc most) (length input) there) refl)
        ∙ at_end extent (drop (suc most) input) own (cut fault) (take (suc most) input)
        ∙ sym (turn_cut Closed wanted cut f (take (suc most) input) own fault is)

-- Over an input that has all of its part, the turn is that of the part alone.
pub turn_of_part : {E A : Type 0} (extent : Extent) (t : Interaction E A) (most : ℕ) (input : List ℕ) (own : List OwnEntry) → most ≤ length input → turn_over extent (limits most t) input own ≡ turn_over Closed t (take most input) own
unfolding limits turn_over
turn_of_part extent (gives a) most input own there = refl
turn_of_part extent (ends e) most input own there = refl
turn_of_part extent (writes bytes t) most input own there = ap (after_writing bytes) (turn_of_part extent t most input own there)
turn_of_part {E} {A} extent (reads wanted cut f) zero input own there =
    let none = nothing_there wanted in
    ap (λ (at : Front (Value wanted) (Fault wanted)). turn_over {E = E} {A = A} extent (by_front at (λ fault. cutting_off (cut fault)) (λ used found. limits zero (f (record { used = used; found = found })))) input own) none.1
    ∙ at_end extent input own (cut none.0) []
    ∙ sym (turn_cut Closed wanted cut f [] own none.0 none.1)
turn_of_part extent (reads wanted cut f) (suc most) input own there =
    part_turn extent wanted cut f most input own there (λ it m rest few. turn_of_part extent (f it) m rest own few) (front_of wanted (take (suc most) input)) refl
turn_of_part extent (asks request f) most input [] there = refl
turn_of_part extent (asks request f) most input (one ∷ own) there = ap (after_asking request) (turn_of_part extent (f one) most input own there)
