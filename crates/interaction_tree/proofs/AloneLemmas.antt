-- Alone with its hub a session's turn is the one that the log and the answers give.
use Rattle.std.proofs.Common.{◌≡◌, ℕ, List, [], ◌∷◌, ◌++◌, take, drop, map, Result, Ok, Err, refl, sym, ◌∙◌, ap, subst, append_assoc}
use Rattle.std.proofs.lemmas.List.{append-nil, drop-append-le}
use Rattle.base_types.specs.Fronts.{Front, Whole, Broken, Partial}
use Rattle.hub_history.specs.declared.entry.Entry.{Entry}
use Rattle.interaction_tree.specs.Wanted.{Wanted, Value, Fault, front_of, Reply, shown, by_front}
use Rattle.interaction_tree.specs.Requests.{Answers, OwnEntry, asked}
use Rattle.interaction_tree.specs.Interaction.{CutOff, Interaction, gives, ends, writes, reads, asks}
use Rattle.interaction_tree.specs.Turns.{Turn, Ended, turn_over, turn, due, cut_off, Closed, Open, after_reading}
use Rattle.interaction_tree.specs.Alone.{TurnAlone, answered_entry, turn_alone, IsAlone}
use Rattle.interaction_tree.specs.Traces.{Begins}
use Rattle.interaction_tree.proofs.FrontLemmas.{shown_stays, shown_within, by_shown}

none_asked : (own : List OwnEntry) → map asked own ≡ [] → own ≡ []
none_asked [] is = refl
none_asked (one ∷ own) is = absurd cc

-- the turn alone has the bytes and the end of a turn, and leads to this log
abbrev IsSame : {E A : Type 0} → Turn E A → List Entry → TurnAlone E A → Type 0
IsSame t log u = (u.bytes ≡ t.bytes) × (u.stop ≡ t.stop) × (u.log ≡ log)

by_front_same : {V F E A : Type 0} (own : List OwnEntry) (log : List Entry) (end : E) (at : Front V F) (cut : F → Turn E A) (cut' : F → TurnAlone E A) (go : ℕ → Result V F → Turn E A) (go' : ℕ → Result V F → TurnAlone E A)
    → ((fault : F) → map asked own ≡ (cut fault).requests → IsSame (cut fault) log (cut' fault))
    → ((used : ℕ) (found : Result V F) → map asked own ≡ (go used found).requests → (go used found).stop ≡ Ended end → IsSame (go used found) log (go' used found))
    → map asked own ≡ (by_front at cut go).requests → (by_front at cut go).stop ≡ Ended end → IsSame (by_front at cut go) log (by_front at cut' go')
by_front_same own log end (Whole used value) cut cut' go go' a b requests stops = b used _ requests stops
by_front_same own log end (Broken used fault) cut cut' go go' a b requests stops = b used _ requests stops
by_front_same own log end (Partial fault) cut cut' go go' a b requests stops = a fault requests

pub alone_same : {E A : Type 0} (answers : Answers) (end : E) (t : Interaction E A) (input : List ℕ) (own : List OwnEntry) (log log' : List Entry) → IsAlone answers log own log'
    → map asked own ≡ (turn t input own).requests → (turn t input own).stop ≡ Ended end
    → IsSame (turn t input own) log' (turn_alone answers t input log)
unfolding turn_over turn_alone
alone_same answers end (gives a) input own log log' alone requests stops = absurd cc
alone_same answers end (ends e) input own log log' alone requests stops = (refl, refl, sym (subst (λ (l : List OwnEntry). IsAlone answers log l log') (none_asked own requests) alone))
alone_same answers end (writes bytes t) input own log log' alone requests stops =
    let ih = alone_same answers end t input own log log' alone requests stops in
    (ap (λ (l : List ℕ). bytes ++ l) ih.0, ih.1, ih.2)
alone_same {E} {A} answers end (reads wanted cut f) input own log log' alone requests stops =
    by_front_same own log' end (front_of wanted input) (λ fault. cut_off {A = A} Closed input (cut fault)) (λ fault. record { bytes = (cut fault).bytes; stop = Ended (cut fault).end; log = log })
    (λ used found. after_reading (take used input) (turn_over Closed (f (record { used = used; found = found })) (drop used input) own))
    (λ used found. turn_alone answers (f (record { used = used; found = found })) (drop used input) log)
    (λ fault none. (refl, refl, sym (subst (λ (l : List OwnEntry). IsAlone answers log l log') (none_asked own none) alone)))
    (λ used found requests stops. alone_same answers end (f (record { used = used; found = found })) (drop used input) own log log' alone requests stops) requests stops
alone_same answers end (asks request f) input [] log log' alone requests stops = absurd cc
alone_same answers end (asks request f) input (one ∷ own) log log' alone requests stops =
    let head : asked one ≡ request = cc in
    let tail : map asked own ≡ (turn (f one) input own).requests = cc in
    let entry : one.entry ≡ answered_entry answers log request = alone.1 ∙ ap (answered_entry answers log) head in
    let ih = alone_same answers end (f one) input own (log ++ one.entry ∷ []) log' alone.2 tail stops in
    subst (λ (p : List Entry × Entry). IsSame (turn (f one) input own) log' (turn_alone answers (f (record { before = p.0; entry = p.1 })) input (log ++ p.1 ∷ []))) (λ i. (alone.0 i, entry i)) ih

pub alone_is : {E A : Type 0} (answers : Answers) (end : E) (t : Interaction E A) (input : List ℕ) (own : List OwnEntry) (log log' : List Entry) → IsAlone answers log own log'
    → map asked own ≡ (turn t input own).requests → (turn t input own).stop ≡ Ended end
    → turn_alone answers t input log ≡ record { bytes = (turn t input own).bytes; stop = Ended end; log = log' }
alone_is answers end t input own log log' alone requests stops =
    let same = alone_same answers end t input own log log' alone requests stops in
    λ i. record { bytes = same.0 i; stop = (same.1 ∙ stops) i; log = same.2 i }

-- Where memory lacks

-- a turn goes on from the log before it
grows_by_front : {V F E A : Type 0} (log : List Entry) (at : Front V F) (cut : F → TurnAlone E A) (go : ℕ → Result V F → TurnAlone E A)
    → ((fault : F) → Begins log (cut fault).log) → ((used : ℕ) (found : Result V F) → Begins log (go used found).log) → Begins log (by_front at cut go).log
grows_by_front log (Whole used value) cut go a b = b used _
grows_by_front log (Broken used fault) cut go a b = b used _
grows_by_front log (Partial fault) cut go a b = a fault

pub alone_grows : {E A : Type 0} (answers : Answers) (t : Interaction E A) (input : List ℕ) (log : List Entry) → Begins log (turn_alone answers t input log).log
unfolding turn_alone
alone_grows answers (gives a) input log = ([], sym (append-nil log))
alone_grows answers (ends e) input log = ([], sym (append-nil log))
alone_grows answers (writes bytes t) input log = alone_grows answers t input log
alone_grows {E} {A} answers (reads wanted cut f) input log =
    grows_by_front log (front_of wanted input) (λ fault. record { bytes = (cut fault).bytes; stop = Ended (cut fault).end; log = log })
    (λ used found. turn_alone answers (f (record { used = used; found = found })) (drop used input) log)
    (λ fault. ([], sym (append-nil log)))
    (λ used found. alone_grows answers (f (record { used = used; found = found })) (drop used input) log)
alone_grows answers (asks request f) input log =
    let more = alone_grows answers (f (record { before = log; entry = answered_entry answers log request })) input (log ++ answered_entry answers log request ∷ []) in
    (answered_entry answers log request ∷ more.0, more.1 ∙ append_assoc log (answered_entry answers log request ∷ []) more.0)

none_begun : (own : List OwnEntry) → Begins (map asked own) [] → own ≡ []
none_begun [] is = refl
none_begun (one ∷ own) is = absurd (let other = is.1 in cc)

-- without entries the log is as it was
begins_here : {E A : Type 0} (answers : Answers) (t : Interaction E A) (input : List ℕ) (own : List OwnEntry) (log log' : List Entry) → IsAlone answers log own log' → own ≡ [] → Begins log' (turn_alone answers t input log).log
begins_here answers t input own log log' alone none =
    let same : log' ≡ log = subst (λ (l : List OwnEntry). IsAlone answers log l log') none alone in
    subst (λ (l : List Entry). Begins l (turn_alone answers t input log).log) (sym same) (alone_grows answers t input log)

module _ {E A : Type 0} (answers : Answers) (wanted : Wanted) (cut : Fault wanted → CutOff E) (f : Reply wanted → Interaction E A) (part rest : List ℕ) (own : List OwnEntry) (log log' : List Entry) where
  -- a reading that is decided by the part
  begins_decided : (n : ℕ) (found : Result (Value wanted) (Fault wanted)) → front_of wanted part ≡ shown n found
      → (Begins (map asked own) (due (f (record { used = n; found = found })) (drop n part) own).requests → Begins log' (turn_alone answers (f (record { used = n; found = found })) (drop n part ++ rest) log).log)
      → Begins (map asked own) (due (reads wanted cut f) part own).requests → Begins log' (turn_alone answers (reads wanted cut f) (part ++ rest) log).log
  unfolding turn_over turn_alone
  begins_decided n found is go begins =
      let cut_here : Fault wanted → Turn E A = λ fault. cut_off Open part (cut fault) in
      let go_here : ℕ → Result (Value wanted) (Fault wanted) → Turn E A = λ used found. after_reading (take used part) (turn_over Open (f (record { used = used; found = found })) (drop used part) own) in
      let cut_alone : Fault wanted → TurnAlone E A = λ fault. record { bytes = (cut fault).bytes; stop = Ended (cut fault).end; log = log } in
      let go_alone : ℕ → Result (Value wanted) (Fault wanted) → TurnAlone E A = λ used found. turn_alone answers (f (record { used = used; found = found })) (drop used (part ++ rest)) log in
      let here = subst (λ (u : Turn E A). Begins (map asked own) u.requests) (ap (λ (at : Front (Value wanted) (Fault wanted)). by_front at cut_here go_here) is ∙ by_shown n found cut_here go_here) begins in
      let behind = subst (λ (l : List ℕ). Begins log' (turn_alone answers (f (record { used = n; found = found })) l log).log) (sym (drop-append-le n part rest (shown_within wanted part n found is))) (go here) in
      subst (λ (u : TurnAlone E A). Begins log' u.log) (sym (ap (λ (at : Front (Value wanted) (Fault wanted)). by_front at cut_alone go_alone) (shown_stays wanted part rest n found is) ∙ by_shown n found cut_alone go_alone)) behind

  begins_read : (at : Front (Value wanted) (Fault wanted)) → front_of wanted part ≡ at → IsAlone answers log own log'
      → ((n : ℕ) (found : Result (Value wanted) (Fault wanted))
      → Begins (map asked own) (due (f (record { used = n; found = found })) (drop n part) own).requests → Begins log' (turn_alone answers (f (record { used = n; found = found })) (drop n part ++ rest) log).log)
      → Begins (map asked own) (due (reads wanted cut f) part own).requests → Begins log' (turn_alone answers (reads wanted cut f) (part ++ rest) log).log
  unfolding turn_over
  begins_read (Whole n value) is alone go begins = begins_decided n (Ok value) is (go n (Ok value)) begins
  begins_read (Broken n fault) is alone go begins = begins_decided n (Err fault) is (go n (Err fault)) begins
  begins_read (Partial fault) is alone go begins =
      let cut_here : Fault wanted → Turn E A = λ fault. cut_off Open part (cut fault) in
      let go_here : ℕ → Result (Value wanted) (Fault wanted) → Turn E A = λ used found. after_reading (take used part) (turn_over Open (f (record { used = used; found = found })) (drop used part) own) in
      let none : Begins (map asked own) [] = subst (λ (u : Turn E A). Begins (map asked own) u.requests) (ap (λ (at : Front (Value wanted) (Fault wanted)). by_front at cut_here go_here) is) begins in
      begins_here answers (reads wanted cut f) (part ++ rest) own log log' alone (none_begun own none)

-- Entries that begin the ones due by a part of the input lead to a beginning of the log that the turn over
-- the whole leads to.
pub alone_begins : {E A : Type 0} (answers : Answers) (t : Interaction E A) (part rest : List ℕ) (own : List OwnEntry) (log log' : List Entry) → IsAlone answers log own log'
    → Begins (map asked own) (due t part own).requests → Begins log' (turn_alone answers t (part ++ rest) log).log
unfolding turn_over turn_alone
alone_begins {E} {A} answers (gives a) part rest own log log' alone begins = begins_here {E = E} {A = A} answers (gives a) (part ++ rest) own log log' alone (none_begun own begins)
alone_begins {E} {A} answers (ends e) part rest own log log' alone begins = begins_here {E = E} {A = A} answers (ends e) (part ++ rest) own log log' alone (none_begun own begins)
alone_begins answers (writes bytes t) part rest own log log' alone begins = alone_begins answers t part rest own log log' alone begins
alone_begins answers (reads wanted cut f) part rest own log log' alone begins =
    begins_read answers wanted cut f part rest own log log' (front_of wanted part) refl alone
    (λ n found begins. alone_begins answers (f (record { used = n; found = found })) (drop n part) rest own log log' alone begins) begins
alone_begins answers (asks request f) part rest [] log log' alone begins = begins_here answers (asks request f) (part ++ rest) [] log log' alone refl
alone_begins answers (asks request f) part rest (one ∷ own) log log' alone begins =
    let same = begins.1 in
    let head : asked one ≡ request = cc in
    let tail : (due (f one) part own).requests ≡ map asked own ++ begins.0 = cc in
    let entry : one.entry ≡ answered_entry answers log request = alone.1 ∙ ap (answered_entry answers log) head in
    let ih = alone_begins answers (f one) part rest own (log ++ one.entry ∷ []) log' alone.2 (begins.0, tail) in
    subst (λ (p : List Entry × Entry). Begins log' (turn_alone answers (f (record { before = p.0; entry = p.1 })) (part ++ rest) (log ++ p.1 ∷ [])).log) (λ i. (alone.0 i, entry i)) ih
