-- What code read, wrote and made along an interaction is its turn.
use Rattle.std.proofs.Common.{◌≡◌, inl, inr, ℕ, List, [], ◌∷◌, ◌++◌, length, map, ◌≤◌, take, drop, Option, Ok, Err, refl, sym, ◌∙◌, ap, subst, arith, append_assoc, length-append}
use Rattle.std.proofs.lemmas.List.{append-nil, take_all, drop_all}
use Rattle.std.specs.Io.KnownBytes.{IsAtEnd}
use Rattle.base_types.specs.Fronts.{Front, Whole, Broken, Partial}
use Rattle.raw_pack.specs.Reading.{IsNoMore}
use Rattle.interaction_tree.specs.Wanted.{Wanted, Value, Fault, front_of, Reply, by_front}
use Rattle.hub_history.specs.Requests.{Request}
use Rattle.interaction_tree.specs.Requests.{OwnEntry, asked}
use Rattle.interaction_tree.specs.Interaction.{CutOff, Interaction, gives, ends, writes, reads, asks}
use Rattle.interaction_tree.specs.Turns.{Extent, Closed, Open, Turn, Waiting, after_writing, after_reading, after_asking, cut_off, turn_over, turn, due}
use Rattle.interaction_tree.specs.Turns as stop
use Rattle.interaction_tree.specs.Traces.{Reading, Writing, Memory, Ended, Failed, Begins, FallsShort, IsTrace}
use Rattle.interaction_tree.specs.Endings.{IsExtent}
use Rattle.interaction_tree.proofs.FrontLemmas.{turn_cut, turn_read, nothing_there}

-- an end of the grammar, whatever is left of the input
pub trace_ended : {E A : Type 0} (left : Option (List ℕ)) (e : E) (t : Interaction E A) (read written : List ℕ) (own : List OwnEntry) (rest : List ℕ) → (IsAtEnd left → rest ≡ [])
    → IsTrace left (Err (Ended e)) t read written own
    → turn t (read ++ rest) own ≡ record { used = read; requests = map asked own; bytes = written; stop = stop.Ended e }
unfolding turn_over
trace_ended left e (gives a) read written own rest over p = absurd p.0
trace_ended left e (ends e') read written own rest over p = λ i. record { used = sym p.0.1 i; requests = map asked (sym p.1 i); bytes = sym p.0.2 i; stop = stop.Ended (sym p.0.0 i) }
trace_ended left e (writes bytes t) read written own rest over (inl p) = absurd p.0
trace_ended left e (writes bytes t) read written own rest over (inr p) =
    ap (after_writing bytes) (trace_ended left e t read p.0 own rest over p.2)
    ∙ (λ i. record { used = read; requests = map asked own; bytes = sym p.1 i; stop = stop.Ended e })
trace_ended left e (reads wanted cut f) read written own rest over (inl p) =
    let whole : read ++ rest ≡ read = ap (λ (l : List ℕ). read ++ l) (over p.0.1.1) ∙ append-nil read in
    ap (λ (l : List ℕ). turn (reads wanted cut f) l own) whole
    ∙ turn_cut Closed wanted cut f read own p.0.0 p.0.1.0
    ∙ (λ i. record { used = read; requests = map asked (sym p.1 i); bytes = sym p.0.3 i; stop = stop.Ended (sym p.0.2 i) })
trace_ended left e (reads wanted cut f) read written own rest over (inr p) =
    let input : read ++ rest ≡ p.0 ++ (p.1 ++ rest) = ap (λ (l : List ℕ). l ++ rest) p.3 ∙ append_assoc p.0 p.1 rest in
    ap (λ (l : List ℕ). turn (reads wanted cut f) l own) input
    ∙ turn_read Closed wanted cut f p.0 (p.1 ++ rest) own p.2 p.4
    ∙ ap (after_reading p.0) (trace_ended left e (f (record { used = length p.0; found = p.2 })) p.1 written own rest over p.5)
    ∙ (λ i. record { used = sym p.3 i; requests = map asked own; bytes = written; stop = stop.Ended e })
trace_ended left e (asks request f) read written own rest over (inl p) = absurd p.0
trace_ended left e (asks request f) read written own rest over (inr p) =
    (λ i. turn (asks request f) (read ++ rest) (p.2 i))
    ∙ ap (after_asking request) (trace_ended left e (f p.0) read written p.1 rest over p.4)
    ∙ (λ i. record { used = read; requests = sym p.3 i ∷ map asked p.1; bytes = written; stop = stop.Ended e })
    ∙ (λ i. record { used = read; requests = map asked (sym p.2 i); bytes = written; stop = stop.Ended e })

-- a failing read
pub trace_reading : {E A : Type 0} (left : Option (List ℕ)) (t : Interaction E A) (read written : List ℕ) (own : List OwnEntry)
    → IsTrace left (Err (Failed Reading)) t read written own
    → due t read own ≡ record { used = read; requests = map asked own; bytes = written; stop = Waiting }
unfolding turn_over
trace_reading left (gives a) read written own p = absurd p.0
trace_reading left (ends e) read written own p = absurd p.0
trace_reading left (writes bytes t) read written own (inl p) = absurd p.0
trace_reading left (writes bytes t) read written own (inr p) =
    ap (after_writing bytes) (trace_reading left t read p.0 own p.2)
    ∙ (λ i. record { used = read; requests = map asked own; bytes = sym p.1 i; stop = Waiting })
trace_reading left (reads wanted cut f) read written own (inl p) =
    turn_cut Open wanted cut f read own p.0.0 p.0.1
    ∙ (λ i. record { used = read; requests = map asked (sym p.1 i); bytes = sym p.0.2 i; stop = Waiting })
trace_reading left (reads wanted cut f) read written own (inr p) =
    ap (λ (l : List ℕ). due (reads wanted cut f) l own) p.3
    ∙ turn_read Open wanted cut f p.0 p.1 own p.2 p.4
    ∙ ap (after_reading p.0) (trace_reading left (f (record { used = length p.0; found = p.2 })) p.1 written own p.5)
    ∙ (λ i. record { used = sym p.3 i; requests = map asked own; bytes = written; stop = Waiting })
trace_reading left (asks request f) read written own (inl p) = absurd p.0
trace_reading left (asks request f) read written own (inr p) =
    (λ i. due (asks request f) read (p.2 i))
    ∙ ap (after_asking request) (trace_reading left (f p.0) read written p.1 p.4)
    ∙ (λ i. record { used = read; requests = sym p.3 i ∷ map asked p.1; bytes = written; stop = Waiting })
    ∙ (λ i. record { used = read; requests = map asked (sym p.2 i); bytes = written; stop = Waiting })

-- all of an input is used that ends inside what is wanted
cut_used : {E : Type 0} (A : Type 0) (extent : Extent) (input : List ℕ) (cut : CutOff E) → (cut_off {A = A} extent input cut).used ≡ input
cut_used A Closed input cut = refl
cut_used A Open input cut = refl

-- without input nothing is used
nothing_used : {E A : Type 0} (extent : Extent) (t : Interaction E A) (own : List OwnEntry) → (turn_over extent t [] own).used ≡ []
unfolding turn_over
nothing_used extent (gives a) own = refl
nothing_used extent (ends e) own = refl
nothing_used extent (writes bytes t) own = nothing_used extent t own
nothing_used {E} {A} extent (reads wanted cut f) own =
    ap (λ (u : Turn E A). u.used) (turn_cut extent wanted cut f [] own (nothing_there wanted).0 (nothing_there wanted).1) ∙ cut_used A extent [] (cut (nothing_there wanted).0)
nothing_used extent (asks request f) [] = refl
nothing_used extent (asks request f) (one ∷ own) = nothing_used extent (f one) own

-- where a write failed, all that was read is used
pub writing_used : {E A : Type 0} (extent : Extent) (left : Option (List ℕ)) (t : Interaction E A) (read written : List ℕ) (own : List OwnEntry)
    → IsTrace left (Err (Failed Writing)) t read written own → (turn_over extent t read own).used ≡ read
unfolding turn_over
writing_used extent left (gives a) read written own p = absurd p.0
writing_used extent left (ends e) read written own p = absurd p.0
writing_used extent left (writes bytes t) read written own (inl p) =
    (λ i. (turn_over extent t (p.0.0 i) own).used) ∙ nothing_used extent t own ∙ sym p.0.0
writing_used extent left (writes bytes t) read written own (inr p) = writing_used extent left t read p.0 own p.2
writing_used {E} {A} extent left (reads wanted cut f) read written own (inl p) =
    ap (λ (u : Turn E A). u.used) (turn_cut extent wanted cut f read own p.0.0 p.0.1.0) ∙ cut_used A extent read (cut p.0.0)
writing_used {E} {A} extent left (reads wanted cut f) read written own (inr p) =
    ap (λ (l : List ℕ). (turn_over extent (reads wanted cut f) l own).used) p.3
    ∙ ap (λ (u : Turn E A). u.used) (turn_read extent wanted cut f p.0 p.1 own p.2 p.4)
    ∙ ap (λ (l : List ℕ). p.0 ++ l) (writing_used extent left (f (record { used = length p.0; found = p.2 })) p.1 written own p.5)
    ∙ sym p.3
writing_used extent left (asks request f) read written own (inl p) = absurd p.0
writing_used extent left (asks request f) read written own (inr p) =
    (λ i. (turn_over extent (asks request f) read (p.2 i)).used) ∙ writing_used extent left (f p.0) read written p.1 p.4

-- a turn behind all of an input
all_used : {E A : Type 0} (extent : Extent) (t : Interaction E A) (n : ℕ) (read : List ℕ) (own : List OwnEntry) → length read ≤ n → take n read ++ (turn_over extent t (drop n read) own).used ≡ read
all_used extent t n read own few =
    ap (λ (l : List ℕ). l ++ (turn_over extent t (drop n read) own).used) (take_all n read few)
    ∙ ap (λ (l : List ℕ). read ++ (turn_over extent t l own).used) (drop_all n read few)
    ∙ ap (λ (l : List ℕ). read ++ l) (nothing_used extent t own)
    ∙ append-nil read

-- what is wanted, of which no more was read than decides it
read_used : {E A : Type 0} (extent : Extent) (wanted : Wanted) (cut : Fault wanted → CutOff E) (f : Reply wanted → Interaction E A) (read : List ℕ) (own : List OwnEntry) (at : Front (Value wanted) (Fault wanted))
    → front_of wanted read ≡ at → IsNoMore at (length read) → (turn_over extent (reads wanted cut f) read own).used ≡ read
unfolding turn_over
read_used {E} {A} extent wanted cut f read own (Partial fault) is few = ap (λ (u : Turn E A). u.used) (turn_cut extent wanted cut f read own fault is) ∙ cut_used A extent read (cut fault)
read_used {E} {A} extent wanted cut f read own (Whole n value) is few =
    ap (λ (at : Front (Value wanted) (Fault wanted)). (by_front at (λ fault. cut_off {A = A} extent read (cut fault))
    (λ used found. after_reading (take used read) (turn_over extent (f (record { used = used; found = found })) (drop used read) own))).used) is
    ∙ all_used extent (f (record { used = n; found = Ok value })) n read own few
read_used {E} {A} extent wanted cut f read own (Broken n fault) is few =
    ap (λ (at : Front (Value wanted) (Fault wanted)). (by_front at (λ fault. cut_off {A = A} extent read (cut fault))
    (λ used found. after_reading (take used read) (turn_over extent (f (record { used = used; found = found })) (drop used read) own))).used) is
    ∙ all_used extent (f (record { used = n; found = Err fault })) n read own few

-- where memory lacked, all that was read is used
pub memory_used : {E A : Type 0} (extent : Extent) (left : Option (List ℕ)) (t : Interaction E A) (read written : List ℕ) (own : List OwnEntry)
    → IsTrace left (Err (Failed Memory)) t read written own → (turn_over extent t read own).used ≡ read
unfolding turn_over
memory_used extent left (gives a) read written own p = sym p.0.0
memory_used extent left (ends e) read written own p = sym p.0.0
memory_used extent left (writes bytes t) read written own (inl p) =
    (λ i. (turn_over extent t (p.0.0 i) own).used) ∙ nothing_used extent t own ∙ sym p.0.0
memory_used extent left (writes bytes t) read written own (inr p) = memory_used extent left t read p.0 own p.2
memory_used extent left (reads wanted cut f) read written own (inl (inl p, q)) = read_used extent wanted cut f read own (front_of wanted read) refl p.1
memory_used {E} {A} extent left (reads wanted cut f) read written own (inl (inr p, q)) =
    ap (λ (u : Turn E A). u.used) (turn_cut extent wanted cut f read own p.0 p.1.0) ∙ cut_used A extent read (cut p.0)
memory_used {E} {A} extent left (reads wanted cut f) read written own (inr p) =
    ap (λ (l : List ℕ). (turn_over extent (reads wanted cut f) l own).used) p.3
    ∙ ap (λ (u : Turn E A). u.used) (turn_read extent wanted cut f p.0 p.1 own p.2 p.4)
    ∙ ap (λ (l : List ℕ). p.0 ++ l) (memory_used extent left (f (record { used = length p.0; found = p.2 })) p.1 written own p.5)
    ∙ sym p.3
memory_used extent left (asks request f) read written own (inl p) =
    (λ i. (turn_over extent (asks request f) (p.0.0 i) own).used) ∙ nothing_used extent (asks request f) own ∙ sym p.0.0
memory_used extent left (asks request f) read written own (inr p) =
    (λ i. (turn_over extent (asks request f) read (p.2 i)).used) ∙ memory_used extent left (f p.0) read written p.1 p.4

-- What was written falls short of what is due of the part that was read, or of the whole where nothing is
-- left.
abbrev pub ShortOfTurn : {E A : Type 0} → Option (List ℕ) → Interaction E A → List ℕ → List ℕ → List OwnEntry → Type 0
ShortOfTurn left t read written own = (extent : Extent) × IsExtent left extent × FallsShort written (turn_over extent t read own).bytes

pub trace_short : {E A : Type 0} (left : Option (List ℕ)) (t : Interaction E A) (read written : List ℕ) (own : List OwnEntry) → IsTrace left (Err (Failed Writing)) t read written own → ShortOfTurn left t read written own
unfolding turn_over
trace_short left (gives a) read written own p = absurd p.0
trace_short left (ends e) read written own p = absurd p.0
trace_short left (writes bytes t) read written own (inl p) =
    let more : List ℕ = (turn_over Open t read own).bytes in
    let short = p.0.1 in
    (Open, tt, (short.0 ++ more, ap (λ (l : List ℕ). l ++ more) short.1 ∙ append_assoc written short.0 more, omega (arith, short.2, length-append short.0 more)))
trace_short left (writes bytes t) read written own (inr p) =
    let ih = trace_short left t read p.0 own p.2 in
    (ih.0, ih.1, (ih.2.0, ap (λ (l : List ℕ). bytes ++ l) ih.2.1 ∙ sym (append_assoc bytes p.0 ih.2.0) ∙ ap (λ (l : List ℕ). l ++ ih.2.0) (sym p.1), ih.2.2))
trace_short left (reads wanted cut f) read written own (inl p) =
    (Closed, p.0.1.1, subst (λ u. FallsShort written u.bytes) (sym (turn_cut Closed wanted cut f read own p.0.0 p.0.1.0)) p.0.2)
trace_short {E} {A} left (reads wanted cut f) read written own (inr p) =
    let ih = trace_short left (f (record { used = length p.0; found = p.2 })) p.1 written own p.5 in
    let over : turn_over ih.0 (reads wanted cut f) read own ≡ after_reading p.0 (turn_over ih.0 (f (record { used = length p.0; found = p.2 })) p.1 own) =
    ap (λ (l : List ℕ). turn_over ih.0 (reads wanted cut f) l own) p.3 ∙ turn_read ih.0 wanted cut f p.0 p.1 own p.2 p.4 in
    (ih.0, ih.1, subst (λ (u : Turn E A). FallsShort written u.bytes) (sym over) ih.2)
trace_short left (asks request f) read written own (inl p) = absurd p.0
trace_short left (asks request f) read written own (inr p) =
    subst (λ (l : List OwnEntry). ShortOfTurn left (asks request f) read written l) (sym p.2) (trace_short left (f p.0) read written p.1 p.4)

-- What was written begins what is due of the part that was read, or of the whole where nothing is left; the
-- entries begin the ones due.
abbrev pub BeginsTurn : {E A : Type 0} → Option (List ℕ) → Interaction E A → List ℕ → List ℕ → List OwnEntry → Type 0
BeginsTurn left t read written own =
    (extent : Extent) × IsExtent left extent × Begins written (turn_over extent t read own).bytes × Begins (map asked own) (due t read own).requests

none_written : (written bytes : List ℕ) → written ≡ [] → Begins written bytes
none_written written bytes none = (bytes, λ i. sym none i ++ bytes)

none_made : (own : List OwnEntry) (requests : List Request) → own ≡ [] → Begins (map asked own) requests
none_made own requests none = (requests, λ i. map asked (sym none i) ++ requests)

nothing_done : {E A : Type 0} (left : Option (List ℕ)) (t : Interaction E A) (read written : List ℕ) (own : List OwnEntry) → written ≡ [] → own ≡ [] → BeginsTurn left t read written own
nothing_done left t read written own p q = (Open, tt, none_written written _ p, none_made own _ q)

-- bytes of which only the first were written
partly_written : (written bytes more : List ℕ) → Begins written bytes → Begins written (bytes ++ more)
partly_written written bytes more b = (b.0 ++ more, ap (λ (l : List ℕ). l ++ more) b.1 ∙ append_assoc written b.0 more)

part_written : {E A : Type 0} (left : Option (List ℕ)) (bytes : List ℕ) (t : Interaction E A) (read written : List ℕ) (own : List OwnEntry) → Begins written bytes → own ≡ [] → BeginsTurn left (writes bytes t) read written own
unfolding turn_over
part_written left bytes t read written own b q = (Open, tt, partly_written written bytes _ b, none_made own _ q)

pub trace_lacked : {E A : Type 0} (left : Option (List ℕ)) (t : Interaction E A) (read written : List ℕ) (own : List OwnEntry)
    → IsTrace left (Err (Failed Memory)) t read written own → BeginsTurn left t read written own
unfolding turn_over
trace_lacked {E} left (gives a) read written own p = nothing_done {E = E} left (gives a) read written own p.0.1 p.1
trace_lacked {E} {A} left (ends e) read written own p = nothing_done {A = A} left (ends e) read written own p.0.1 p.1
trace_lacked left (writes bytes t) read written own (inl p) = part_written left bytes t read written own p.0.1 p.1
trace_lacked left (writes bytes t) read written own (inr p) =
    let ih = trace_lacked left t read p.0 own p.2 in
    (ih.0, ih.1, (ih.2.0, ap (λ (l : List ℕ). bytes ++ l) ih.2.1 ∙ sym (append_assoc bytes p.0 ih.2.0) ∙ ap (λ (l : List ℕ). l ++ ih.2.0) (sym p.1)), ih.3)
trace_lacked left (reads wanted cut f) read written own (inl (inl none, q)) = nothing_done left (reads wanted cut f) read written own none.0 q
trace_lacked left (reads wanted cut f) read written own (inl (inr p, q)) =
    (Closed, p.1.1, subst (λ u. Begins written u.bytes) (sym (turn_cut Closed wanted cut f read own p.0 p.1.0)) p.2, none_made own _ q)
trace_lacked {E} {A} left (reads wanted cut f) read written own (inr p) =
    let ih = trace_lacked left (f (record { used = length p.0; found = p.2 })) p.1 written own p.5 in
    let over : (extent : Extent) → turn_over extent (reads wanted cut f) read own ≡ after_reading p.0 (turn_over extent (f (record { used = length p.0; found = p.2 })) p.1 own) =
    λ extent. ap (λ (l : List ℕ). turn_over extent (reads wanted cut f) l own) p.3 ∙ turn_read extent wanted cut f p.0 p.1 own p.2 p.4 in
    (ih.0, ih.1, subst (λ (u : Turn E A). Begins written u.bytes) (sym (over ih.0)) ih.2, subst (λ (u : Turn E A). Begins (map asked own) u.requests) (sym (over Open)) ih.3)
trace_lacked left (asks request f) read written own (inl p) = nothing_done left (asks request f) read written own p.0.1 p.1
trace_lacked left (asks request f) read written own (inr p) =
    let ih = trace_lacked left (f p.0) read written p.1 p.4 in
    subst (λ (l : List OwnEntry). BeginsTurn left (asks request f) read written l) (sym p.2) (ih.0, ih.1, ih.2, (ih.3.0, λ i. sym p.3 i ∷ ih.3.1 i))
