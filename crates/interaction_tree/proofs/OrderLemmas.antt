-- Of an interaction whose entries come first, the own entries are all that are due where a write fails.
use Rattle.std.proofs.Common.{◌≡◌, inl, inr, ℕ, Bool, true, false, List, [], ◌∷◌, length, map, Option, Err, refl, sym, ◌∙◌, ap}
use Rattle.interaction_tree.specs.Requests.{OwnEntry, asked}
use Rattle.interaction_tree.specs.Interaction.{Interaction, gives, ends, writes, reads, asks, ◌>>=◌}
use Rattle.interaction_tree.specs.Turns.{Open, turn_over, due}
use Rattle.interaction_tree.specs.Traces.{Writing, Failed, IsTrace}
use Rattle.interaction_tree.specs.Order.{EntriesFirst}
use Rattle.interaction_tree.proofs.FrontLemmas.{turn_cut, turn_read, nothing_there}

pub order_bind : {E A B : Type 0} (wrote : Bool) (t : Interaction E A) (k : A → Interaction E B) (then : Bool → B → Type 0) → EntriesFirst wrote t (λ w a. EntriesFirst w (k a) then) → EntriesFirst wrote (t >>= k) then
unfolding EntriesFirst ◌>>=◌
order_bind wrote (gives a) k then p = p
order_bind wrote (ends e) k then p = tt
order_bind wrote (writes bytes t) k then p = order_bind true t k then p
order_bind wrote (reads wanted cut f) k then p = λ reply. order_bind false (f reply) k then (p reply)
order_bind wrote (asks request f) k then p = (p.0, λ own. order_bind wrote (f own) k then (p.1 own))

order_more : {E A : Type 0} (wrote : Bool) (t : Interaction E A) (then then' : Bool → A → Type 0) → ((w : Bool) (a : A) → then w a → then' w a) → EntriesFirst wrote t then → EntriesFirst wrote t then'
unfolding EntriesFirst
order_more wrote (gives a) then then' more p = more wrote a p
order_more wrote (ends e) then then' more p = tt
order_more wrote (writes bytes t) then then' more p = order_more true t then then' more p
order_more wrote (reads wanted cut f) then then' more p = λ reply. order_more false (f reply) then then' more (p reply)
order_more wrote (asks request f) then then' more p = (p.0, λ own. order_more wrote (f own) then then' more (p.1 own))

-- one after the other
pub order_then : {E A B : Type 0} (wrote : Bool) (t : Interaction E A) (k : A → Interaction E B) (now : Bool → A → Type 0) (then : Bool → B → Type 0)
    → EntriesFirst wrote t now → ((w : Bool) (a : A) → now w a → EntriesFirst w (k a) then) → EntriesFirst wrote (t >>= k) then
order_then wrote t k now then p more = order_bind wrote t k then (order_more wrote t now (λ w a. EntriesFirst w (k a) then) more p)

-- without input it makes no entry after it wrote
quiet : {E A : Type 0} (t : Interaction E A) (then : Bool → A → Type 0) → EntriesFirst true t then → (due t [] []).requests ≡ []
unfolding EntriesFirst turn_over
quiet (gives a) then p = refl
quiet (ends e) then p = refl
quiet (writes bytes t) then p = quiet t then p
quiet (reads wanted cut f) then p = ap (λ u. u.requests) (turn_cut Open wanted cut f [] [] (nothing_there wanted).0 (nothing_there wanted).1)
quiet (asks request f) then p = absurd cc

-- a failing write
pub trace_writing : {E A : Type 0} (wrote : Bool) (left : Option (List ℕ)) (t : Interaction E A) (then : Bool → A → Type 0) (read written : List ℕ) (own : List OwnEntry)
    → EntriesFirst wrote t then → IsTrace left (Err (Failed Writing)) t read written own → map asked own ≡ (due t read own).requests
unfolding EntriesFirst turn_over
trace_writing wrote left (gives a) then read written own o p = absurd p.0
trace_writing wrote left (ends e) then read written own o p = absurd p.0
trace_writing wrote left (writes bytes t) then read written own o (inl p) =
    (λ i. map asked (p.1 i)) ∙ sym (quiet t then o) ∙ (λ i. (due t (sym p.0.0 i) (sym p.1 i)).requests)
trace_writing wrote left (writes bytes t) then read written own o (inr p) = trace_writing true left t then read p.0 own o p.2
trace_writing wrote left (reads wanted cut f) then read written own o (inl p) =
    (λ i. map asked (p.1 i)) ∙ sym (ap (λ u. u.requests) (turn_cut Open wanted cut f read own p.0.0 p.0.1.0))
trace_writing wrote left (reads wanted cut f) then read written own o (inr p) =
    trace_writing false left (f (record { used = length p.0; found = p.2 })) then p.1 written own (o (record { used = length p.0; found = p.2 })) p.5
    ∙ sym (ap (λ (l : List ℕ). (due (reads wanted cut f) l own).requests) p.3 ∙ ap (λ u. u.requests) (turn_read Open wanted cut f p.0 p.1 own p.2 p.4))
trace_writing wrote left (asks request f) then read written own o (inl p) = absurd p.0
trace_writing wrote left (asks request f) then read written own o (inr p) =
    (λ i. map asked (p.2 i))
    ∙ (λ i. p.3 i ∷ trace_writing wrote left (f p.0) then read written p.1 (o.1 p.0) p.4 i)
    ∙ (λ i. (due (asks request f) read (sym p.2 i)).requests)
