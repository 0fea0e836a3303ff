-- What is due of a part of the input is written before more of it is read.
use Rattle.std.proofs.Common.{◌≡◌, ◌⊎◌, inl, inr, ℕ, ◌≤◌, List, [], ◌∷◌, ◌++◌, length, Option, Result, Ok, Err, refl, sym, ◌∙◌, ap, subst, arith, append_assoc, length-append}
use Rattle.base_types.specs.Fronts.{Front, Whole, Broken, Partial}
use Rattle.raw_pack.specs.Reading.{IsNoMore}
use Rattle.interaction_tree.specs.Wanted.{Wanted, Value, Fault, front_of, Reply, shown}
use Rattle.interaction_tree.specs.Requests.{OwnEntry}
use Rattle.interaction_tree.specs.Interaction.{CutOff, Interaction, gives, ends, writes, reads, asks}
use Rattle.interaction_tree.specs.Turns.{Open, Turn, turn_over, due}
use Rattle.interaction_tree.specs.Traces.{Writing, Memory, Failed, Begins, FallsShort, IsTrace}
use Rattle.interaction_tree.proofs.FrontLemmas.{shown_stays, shown_within, turn_cut, turn_read}

-- a part of two lists falls short of the first, or ends in the second
part_of : (first more front rest : List ℕ) → first ++ more ≡ front ++ rest → FallsShort front first ⊎ ((back : List ℕ) × (front ≡ first ++ back) × (more ≡ back ++ rest))
part_of [] more front rest is = inr (front, refl, is)
part_of (x ∷ first) more [] rest is = inl (x ∷ first, refl, omega arith)
part_of (x ∷ first) more (y ∷ front) rest is =
    let same : x ≡ y = cc in
    let tail : first ++ more ≡ front ++ rest = cc in
    elim (part_of first more front rest tail) [
      | inl short ↦ inl (short.0, (λ i. same i ∷ short.1 i), short.2)
      | inr back ↦ inr (back.0, (λ i. sym same i ∷ back.1 i), back.2)
    ]

nothing_short : (read front : List ℕ) → read ≡ [] → FallsShort front read → ⊥
nothing_short read front none short = omega (arith, ap length none, ap length short.1, length-append front short.0, short.2)

begins_nothing : (bytes written : List ℕ) → bytes ≡ [] → Begins bytes written
begins_nothing bytes written none = (written, λ i. sym none i ++ written)

not_shown : {V F : Type 0} (fault : F) (n : ℕ) (found : Result V F) → Partial fault ≡ shown n found → ⊥
not_shown fault n (Ok value) is = absurd cc
not_shown fault n (Err other) is = absurd cc

same_shown : {V F : Type 0} (m n : ℕ) (one other : Result V F) → shown m one ≡ shown n other → m ≡ n
same_shown m n (Ok a) (Ok b) is = cc
same_shown m n (Ok a) (Err b) is = absurd cc
same_shown m n (Err a) (Ok b) is = absurd cc
same_shown m n (Err a) (Err b) is = cc

no_more_shown : {V F : Type 0} (n m : ℕ) (found : Result V F) → IsNoMore (shown n found) m → m ≤ n
no_more_shown n m (Ok value) p = p
no_more_shown n m (Err fault) p = p

module _ {E A : Type 0} (wanted : Wanted) (cut : Fault wanted → CutOff E) (f : Reply wanted → Interaction E A) (front : List ℕ) (own : List OwnEntry) where
  -- nothing is due of a front that decides nothing
  none_due : (at : Front (Value wanted) (Fault wanted)) → front_of wanted front ≡ at → ((n : ℕ) (found : Result (Value wanted) (Fault wanted)) → front_of wanted front ≡ shown n found → ⊥)
      → (due (reads wanted cut f) front own).bytes ≡ []
  none_due (Whole n value) is never = absurd (never n (Ok value) is)
  none_due (Broken n fault) is never = absurd (never n (Err fault) is)
  none_due (Partial fault) is never = ap (λ (u : Turn E A). u.bytes) (turn_cut Open wanted cut f front own fault is)

  stays : (read : List ℕ) → FallsShort front read → (n : ℕ) (found : Result (Value wanted) (Fault wanted)) → front_of wanted front ≡ shown n found → front_of wanted read ≡ shown n found
  stays read short n found is = ap (front_of wanted) short.1 ∙ shown_stays wanted front short.0 n found is

  -- where more was read, and the input ended inside what is wanted
  short_of_cut : (read : List ℕ) (fault : Fault wanted) → FallsShort front read → front_of wanted read ≡ Partial fault → (due (reads wanted cut f) front own).bytes ≡ []
  short_of_cut read fault short cut_is = none_due (front_of wanted front) refl (λ n found is. not_shown fault n found (sym cut_is ∙ stays read short n found is))

  -- where no more was read than decides it
  short_of_more : (read : List ℕ) → FallsShort front read → IsNoMore (front_of wanted read) (length read) → (due (reads wanted cut f) front own).bytes ≡ []
  short_of_more read short few =
      none_due (front_of wanted front) refl
      (λ n found is.
      let most : length read ≤ n = no_more_shown n (length read) found (subst (λ (at : Front (Value wanted) (Fault wanted)). IsNoMore at (length read)) (stays read short n found is) few) in
      omega (arith, most, shown_within wanted front n found is, ap length short.1, length-append front short.0, short.2))

  -- where it was read, and more behind it
  short_of_read : (first more read written : List ℕ) (found : Result (Value wanted) (Fault wanted)) → read ≡ first ++ more → front_of wanted first ≡ shown (length first) found → FallsShort front read
      → ((back : List ℕ) → FallsShort back more → Begins (due (f (record { used = length first; found = found })) back own).bytes written) → Begins (due (reads wanted cut f) front own).bytes written
  short_of_read first more read written found whole first_is short go =
      elim (part_of first more front short.0 (sym whole ∙ short.1)) [
        | inl less ↦
            begins_nothing (due (reads wanted cut f) front own).bytes written
            (none_due (front_of wanted front) refl
            (λ n other is.
            let same : length first ≡ n = same_shown (length first) n found other (sym first_is ∙ stays first less n other is) in
            omega (arith, same, shown_within wanted front n other is, ap length less.1, length-append front less.0, less.2)))
        | inr back ↦
            subst (λ (l : List ℕ). Begins (due (reads wanted cut f) l own).bytes written) (sym back.1)
            (subst (λ (u : Turn E A). Begins u.bytes written) (sym (turn_read Open wanted cut f first back.0 own found first_is)) (go back.0 (short.0, back.2, short.2)))
      ]

-- what is due of each shorter part was written
abbrev pub IsDueBefore : {E A : Type 0} → Interaction E A → List ℕ → List ℕ → List OwnEntry → Type 0
IsDueBefore t read written own = (front : List ℕ) → FallsShort front read → Begins (due t front own).bytes written

more_written : (bytes due more written : List ℕ) → written ≡ bytes ++ more → Begins due more → Begins (bytes ++ due) written
more_written bytes due more written is b = (b.0, is ∙ ap (λ (l : List ℕ). bytes ++ l) b.1 ∙ sym (append_assoc bytes due b.0))

pub writing_before : {E A : Type 0} (left : Option (List ℕ)) (t : Interaction E A) (read written : List ℕ) (own : List OwnEntry) → IsTrace left (Err (Failed Writing)) t read written own → IsDueBefore t read written own
unfolding turn_over
writing_before left (gives a) read written own p front short = absurd p.0
writing_before left (ends e) read written own p front short = absurd p.0
writing_before left (writes bytes t) read written own (inl p) front short = absurd (nothing_short read front p.0.0 short)
writing_before left (writes bytes t) read written own (inr p) front short = more_written bytes _ p.0 written p.1 (writing_before left t read p.0 own p.2 front short)
writing_before left (reads wanted cut f) read written own (inl p) front short = begins_nothing _ written (short_of_cut wanted cut f front own read p.0.0 short p.0.1.0)
writing_before left (reads wanted cut f) read written own (inr p) front short =
    short_of_read wanted cut f front own p.0 p.1 read written p.2 p.3 p.4 short (writing_before left (f (record { used = length p.0; found = p.2 })) p.1 written own p.5)
writing_before left (asks request f) read written own (inl p) front short = absurd p.0
writing_before left (asks request f) read written own (inr p) front short =
    subst (λ (l : List OwnEntry). Begins (due (asks request f) front l).bytes written) (sym p.2) (writing_before left (f p.0) read written p.1 p.4 front short)

pub memory_before : {E A : Type 0} (left : Option (List ℕ)) (t : Interaction E A) (read written : List ℕ) (own : List OwnEntry) → IsTrace left (Err (Failed Memory)) t read written own → IsDueBefore t read written own
unfolding turn_over
memory_before left (gives a) read written own p front short = absurd (nothing_short read front p.0.0 short)
memory_before left (ends e) read written own p front short = absurd (nothing_short read front p.0.0 short)
memory_before left (writes bytes t) read written own (inl p) front short = absurd (nothing_short read front p.0.0 short)
memory_before left (writes bytes t) read written own (inr p) front short = more_written bytes _ p.0 written p.1 (memory_before left t read p.0 own p.2 front short)
memory_before left (reads wanted cut f) read written own (inl (inl p, q)) front short = begins_nothing _ written (short_of_more wanted cut f front own read short p.1)
memory_before left (reads wanted cut f) read written own (inl (inr p, q)) front short = begins_nothing _ written (short_of_cut wanted cut f front own read p.0 short p.1.0)
memory_before left (reads wanted cut f) read written own (inr p) front short =
    short_of_read wanted cut f front own p.0 p.1 read written p.2 p.3 p.4 short (memory_before left (f (record { used = length p.0; found = p.2 })) p.1 written own p.5)
memory_before left (asks request f) read written own (inl p) front short = absurd (nothing_short read front p.0.0 short)
memory_before left (asks request f) read written own (inr p) front short =
    subst (λ (l : List OwnEntry). Begins (due (asks request f) front l).bytes written) (sym p.2) (memory_before left (f p.0) read written p.1 p.4 front short)
