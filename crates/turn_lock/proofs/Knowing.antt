-- How what is known of the list goes on as the list grows.
use Rattle.std.proofs.Common.{◌≡◌, ◌≢◌, ◌==◌, ◌<◌, ◌≤◌, ℕ, Bool, true, false, cond, ltb, ⊎_elim, List, [], ◌∷◌, ◌++◌, append_assoc, append-nil, length, drop, refl, sym, ◌∙◌, ap, subst, arith, ltb-true, ltb-false, ne_eqb}
use Rattle.std.specs.Prelude.{All, Contains, filter}
use Rattle.std.proofs.lemmas.List.Elements.{All-nil, All-cons, All-head, All-tail, All-append, Contains-append_cases, filter-append}
use Rattle.turn_lock.specs.declared.rule.Knowledge.{Knowledge}
use Rattle.turn_lock.specs.Lock.{longer, AreOthers}
use Rattle.turn_lock.specs.Rule.{known, nothing, GoesOn}

pub none_in : {X : Type 0} (x : X) → Contains [] x → ⊥
none_in x c = absurd (omega (arith, c.1))

pub all_left : {X : Type 0} (P : X → Type 0) (xs ys : List X) → All P (xs ++ ys) → All P xs
all_left P [] ys h = All-nil P
all_left P (x ∷ xs) ys h = All-cons P x xs (All-head P x (xs ++ ys) h) (all_left P xs ys (All-tail P x (xs ++ ys) h))

pub all_right : {X : Type 0} (P : X → Type 0) (xs ys : List X) → All P (xs ++ ys) → All P ys
all_right P [] ys h = h
all_right P (x ∷ xs) ys h = all_right P xs ys (All-tail P x (xs ++ ys) h)

abbrev head_or : {X : Type 0} → X → List X → X
head_or d [] = d
head_or d (x ∷ xs) = x

abbrev tail_of : {X : Type 0} → List X → List X
tail_of [] = []
tail_of (x ∷ xs) = xs

-- two beginnings of one list: the shorter one begins the longer one
pub between : {X : Type 0} (a b r q : List X) → length a ≤ length b → a ++ r ≡ b ++ q → (m : List X) × (a ++ m ≡ b) × (r ≡ m ++ q)
between [] b r q le e = (b, refl, e)
between (x ∷ a) [] r q le e = absurd (omega (arith, le))
between (x ∷ a) (y ∷ b) r q le e =
    let le' : length a ≤ length b = omega (arith, le) in
    let step = between a b r q le' (ap tail_of e) in
    (step.0, (λ i. head_or x (e i) ∷ step.1 i), step.2)

either_way : (b : Bool) (R : Bool → Type 0) → (b ≡ true → R true) → (b ≡ false → R false) → R b
either_way true R y n = y refl
either_way false R y n = n refl

module _ {E : Type 0} (caller : E → ℕ) where
  pub goes_on-same : (p : Knowledge E) → GoesOn caller p p.at_new.value p.since.value
  goes_on-same p = record { starts = λ n c. refl; rest = []; whole = append-nil p.since.value; others = All-nil (λ e. ¬ (Contains p.numbers.value (caller e))) }

  pub goes_on-nothing : (at_new since : List E) → GoesOn caller nothing at_new since
  goes_on-nothing at_new since = record { starts = λ n c. absurd (none_in n c); rest = since; whole = refl; others = λ k d l c. none_in _ c }

  pub goes_on-append : (p : Knowledge E) (at_new since more : List E) → GoesOn caller p at_new since → AreOthers caller p.numbers.value more → GoesOn caller p at_new (since ++ more)
  goes_on-append p at_new since more g new = record { starts = g.starts; rest = g.rest ++ more; whole = sym (append_assoc p.since.value g.rest more) ∙ ap (λ l. l ++ more) g.whole; others = All-append (λ e. ¬ (Contains p.numbers.value (caller e))) g.rest more g.others new }

  pub both_others : (a b : List ℕ) (xs : List E) → AreOthers caller a xs → AreOthers caller b xs → AreOthers caller (a ++ b) xs
  both_others a b xs h k = λ i d l c. ⊎_elim (λ x. h i d l x) (λ y. k i d l y) (Contains-append_cases a b _ c)

  -- the first is no shorter
  pub both_first : (p q : Knowledge E) (at_new since : List E) → (p.at_new.value ≡ at_new) → GoesOn caller p at_new since → GoesOn caller q at_new since → length q.since.value ≤ length p.since.value
      → GoesOn caller (known p.at_new.value p.since.value (p.numbers.value ++ q.numbers.value)) at_new since × GoesOn caller p p.at_new.value p.since.value × GoesOn caller q p.at_new.value p.since.value
  both_first p q at_new since is gp gq le =
      let m = between q.since.value p.since.value gq.rest gp.rest le (gq.whole ∙ sym gp.whole) in
      let qs : AreOthers caller q.numbers.value (m.0 ++ gp.rest) = subst (λ l. AreOthers caller q.numbers.value l) m.2 gq.others in
      let P : E → Type 0 = λ e. ¬ (Contains q.numbers.value (caller e)) in (
        record { starts = λ n c. is; rest = gp.rest; whole = gp.whole; others = both_others p.numbers.value q.numbers.value gp.rest gp.others (all_right P m.0 gp.rest qs) },
        goes_on-same p,
        record { starts = λ n c. gq.starts n c ∙ sym is; rest = m.0; whole = m.1; others = all_left P m.0 gp.rest qs },
      )

  -- the second is no shorter
  pub both_second : (p q : Knowledge E) (at_new since : List E) → (p.at_new.value ≡ at_new) → GoesOn caller p at_new since → GoesOn caller q at_new since → length p.since.value ≤ length q.since.value
      → GoesOn caller (known p.at_new.value q.since.value (p.numbers.value ++ q.numbers.value)) at_new since × GoesOn caller p p.at_new.value q.since.value × GoesOn caller q p.at_new.value q.since.value
  both_second p q at_new since is gp gq le =
      let m = between p.since.value q.since.value gp.rest gq.rest le (gp.whole ∙ sym gq.whole) in
      let ps : AreOthers caller p.numbers.value (m.0 ++ gq.rest) = subst (λ l. AreOthers caller p.numbers.value l) m.2 gp.others in
      let P : E → Type 0 = λ e. ¬ (Contains p.numbers.value (caller e)) in (
        record { starts = λ n c. is; rest = gq.rest; whole = gq.whole; others = both_others p.numbers.value q.numbers.value gq.rest (all_right P m.0 gq.rest ps) gq.others },
        record { starts = λ n c. refl; rest = m.0; whole = m.1; others = all_left P m.0 gq.rest ps },
        record { starts = λ n c. gq.starts n c ∙ sym is; rest = []; whole = append-nil q.since.value; others = All-nil (λ e. ¬ (Contains q.numbers.value (caller e))) },
      )

  pub both_longer : (p q : Knowledge E) (at_new since : List E) → (p.at_new.value ≡ at_new) → GoesOn caller p at_new since → GoesOn caller q at_new since
      → GoesOn caller (known p.at_new.value (longer p.since.value q.since.value) (p.numbers.value ++ q.numbers.value)) at_new since × GoesOn caller p p.at_new.value (longer p.since.value q.since.value) × GoesOn caller q p.at_new.value (longer p.since.value q.since.value)
  both_longer p q at_new since is gp gq =
      let R : Bool → Type 0 = λ b. GoesOn caller (known p.at_new.value (cond b q.since.value p.since.value) (p.numbers.value ++ q.numbers.value)) at_new since × GoesOn caller p p.at_new.value (cond b q.since.value p.since.value) × GoesOn caller q p.at_new.value (cond b q.since.value p.since.value) in
      either_way (ltb (length p.since.value) (length q.since.value)) R
      (λ e. both_second p q at_new since is gp gq (omega (arith, ltb-true (length p.since.value) (length q.since.value) e)))
      (λ e. both_first p q at_new since is gp gq (omega (arith, ltb-false (length p.since.value) (length q.since.value) e)))

  -- the entries of an owned number are all known
  pub kept_none : (numbers : List ℕ) (n : ℕ) (xs : List E) → Contains numbers n → AreOthers caller numbers xs → filter (λ e. caller e == n) xs ≡ []
  kept_none numbers n [] c h = refl
  kept_none numbers n (x ∷ xs) c h =
      let P : E → Type 0 = λ e. ¬ (Contains numbers (caller e)) in
      let ne : caller x ≢ n = λ e. All-head P x xs h (subst (λ m. Contains numbers m) (sym e) c) in
      ap (λ b. cond b (x ∷ filter (λ e. caller e == n) xs) (filter (λ e. caller e == n) xs)) (ne_eqb (caller x) n ne) ∙ kept_none numbers n xs c (All-tail P x xs h)

  pub kept_same : (p : Knowledge E) (at_new since : List E) (n : ℕ) → GoesOn caller p at_new since → Contains p.numbers.value n → filter (λ e. caller e == n) since ≡ filter (λ e. caller e == n) p.since.value
  kept_same p at_new since n g c =
      let f : E → Bool = λ e. caller e == n in
      ap (filter f) (sym g.whole) ∙ filter-append f p.since.value g.rest ∙ ap (λ l. filter f p.since.value ++ l) (kept_none p.numbers.value n g.rest c g.others) ∙ append-nil (filter f p.since.value)

  -- where each number is owned, nothing is left to know
  pub nothing_left : (numbers : List ℕ) (passes : ℕ) (xs : List E) → ((n : ℕ) → n < passes → Contains numbers n) → AreOthers caller numbers xs → All (λ e. caller e < passes) xs → xs ≡ []
  nothing_left numbers passes [] all h k = refl
  nothing_left numbers passes (x ∷ xs) all h k = absurd (All-head (λ e. ¬ (Contains numbers (caller e))) x xs h (all (caller x) (All-head (λ e. caller e < passes) x xs k)))

pub drop_front : {X : Type 0} (xs ys : List X) → drop (length xs) (xs ++ ys) ≡ ys
drop_front [] ys = refl
drop_front (x ∷ xs) ys = drop_front xs ys
