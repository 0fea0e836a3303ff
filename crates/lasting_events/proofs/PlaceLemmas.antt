-- Places among the entries that last, by their places in the log.
use Rattle.std.proofs.Common.{◌≡◌, inl, inr, ℕ, zero, suc, ◌+◌, ◌-◌, ◌<◌, ◌≤◌, Bool, true, false, List, [], ◌∷◌, ◌++◌, length, take, drop, filter, get_or, ltb, ltb-false, ltb-true, refl, sym, ◌∙◌, ap, subst, arith, append_assoc, length-append}
use Rattle.std.specs.Prelude.{cond, if◌then◌else◌}
use Rattle.std.specs.List.Sorted.{IsNonDecreasingBy, IsPartitionPoint}
use Rattle.std.proofs.lemmas.Bool.{cases_lt}
use Rattle.std.proofs.lemmas.List.{drop-append-le, length-drop, length-take-le, take-append-drop}
use Rattle.hub_history.specs.declared.entry.Entry.{Entry}
use Rattle.lasting_events.specs.Lasting.{lasting_places, lasts, place_among, places_from}

places_append : (k : ℕ) (xs ys : List Entry) → places_from k (xs ++ ys) ≡ places_from k xs ++ places_from (k + length xs) ys
places_append k [] ys = ap (λ (n : ℕ). places_from n ys) (omega arith)
places_append k (x ∷ xs) ys =
    ap (λ (l : List ℕ). (if lasts x.event then k ∷ [] else []) ++ l) (places_append (k + 1) xs ys ∙ ap (λ (n : ℕ). places_from (k + 1) xs ++ places_from n ys) (omega arith))
    ∙ sym (append_assoc (if lasts x.event then k ∷ [] else []) (places_from (k + 1) xs) (places_from (k + length (x ∷ xs)) ys))

-- one entry more
pub places_grow : (start : ℕ) (log : List Entry) (e : Entry) → start ≤ length log → lasting_places start (log ++ e ∷ []) ≡ lasting_places start log ++ (if lasts e.event then length log ∷ [] else [])
places_grow start log e within =
    ap (places_from start) (drop-append-le start log (e ∷ []) within)
    ∙ places_append start (drop start log) (e ∷ [])
    ∙ ap (λ (n : ℕ). lasting_places start log ++ places_from n (e ∷ [])) (omega (arith, length-drop start log, within))
    ∙ ap (λ (l : List ℕ). lasting_places start log ++ l) (none_behind (if lasts e.event then length log ∷ [] else []))
  where
    none_behind : (xs : List ℕ) → xs ++ [] ≡ xs
    none_behind [] = refl
    none_behind (x ∷ xs) = ap (λ (l : List ℕ). x ∷ l) (none_behind xs)

places_length : (k : ℕ) (es : List Entry) → length (places_from k es) ≡ length (filter (λ (e : Entry). lasts e.event) es)
places_length k [] = refl
places_length k (e ∷ es) = by_lasts (lasts e.event) (places_length (k + 1) es)
  where
    by_lasts : (b : Bool) → length (places_from (k + 1) es) ≡ length (filter (λ (x : Entry). lasts x.event) es)
        → length ((if b then k ∷ [] else []) ++ places_from (k + 1) es) ≡ length (cond b (e ∷ filter (λ (x : Entry). lasts x.event) es) (filter (λ (x : Entry). lasts x.event) es))
    by_lasts true rest = ap suc rest
    by_lasts false rest = rest

few_places : (k : ℕ) (es : List Entry) → length (places_from k es) ≤ length es
few_places k [] = omega arith
few_places k (e ∷ es) = by_lasts (lasts e.event) (few_places (k + 1) es)
  where
    by_lasts : (b : Bool) → length (places_from (k + 1) es) ≤ length es → length ((if b then k ∷ [] else []) ++ places_from (k + 1) es) ≤ length (e ∷ es)
    by_lasts true rest = omega (arith, rest)
    by_lasts false rest = omega (arith, rest)

-- the places are from the first on, and before the end
abbrev AreBetween : ℕ → ℕ → List ℕ → Type 0
AreBetween low high xs = (i d : ℕ) → i < length xs → (low ≤ get_or xs i d) × (get_or xs i d < high)

places_between : (k : ℕ) (es : List Entry) → AreBetween k (k + length es) (places_from k es)
places_between k [] i d lt = absurd (omega (arith, lt))
places_between k (e ∷ es) i d lt = by_lasts (lasts e.event) (places_between (k + 1) es) i d lt
  where
    by_lasts : (b : Bool) → AreBetween (k + 1) (k + 1 + length es) (places_from (k + 1) es) → AreBetween k (k + length (e ∷ es)) ((if b then k ∷ [] else []) ++ places_from (k + 1) es)
    by_lasts true rest zero d lt = (omega arith, omega arith)
    by_lasts true rest (suc i) d lt = let it = rest i d (omega (arith, lt)) in (omega (arith, it.0), omega (arith, it.1))
    by_lasts false rest i d lt = let it = rest i d lt in (omega (arith, it.0), omega (arith, it.1))

pub places_rise : (k : ℕ) (es : List Entry) → IsNonDecreasingBy (λ (x : ℕ). x) (places_from k es)
places_rise k [] i j d le lt = absurd (omega (arith, lt))
places_rise k (e ∷ es) i j d le lt = by_lasts (lasts e.event) (places_rise (k + 1) es) i j d le lt
  where
    by_lasts : (b : Bool) → IsNonDecreasingBy (λ (x : ℕ). x) (places_from (k + 1) es) → IsNonDecreasingBy (λ (x : ℕ). x) ((if b then k ∷ [] else []) ++ places_from (k + 1) es)
    by_lasts true rest zero zero d le lt = omega arith
    by_lasts true rest zero (suc j) d le lt = let it = places_between (k + 1) es j d (omega (arith, lt)) in omega (arith, it.0)
    by_lasts true rest (suc i) zero d le lt = absurd (omega (arith, le))
    by_lasts true rest (suc i) (suc j) d le lt = rest i j d (omega (arith, le)) (omega (arith, lt))
    by_lasts false rest i j d le lt = rest i j d le lt

-- ---- where a search ends

get_front : (ys zs : List ℕ) (i d : ℕ) → i < length ys → get_or (ys ++ zs) i d ≡ get_or ys i d
get_front [] zs i d lt = absurd (omega (arith, lt))
get_front (y ∷ ys) zs zero d lt = refl
get_front (y ∷ ys) zs (suc i) d lt = get_front ys zs i d (omega (arith, lt))

get_next : (ys zs : List ℕ) (d : ℕ) → get_or (ys ++ zs) (length ys) d ≡ get_or zs 0 d
get_next [] zs d = refl
get_next (y ∷ ys) zs d = get_next ys zs d

-- between what is below and what isn't
point_is : (ys zs : List ℕ) (low high t r : ℕ) → AreBetween low t ys → AreBetween t high zs → r ≤ length (ys ++ zs) → IsPartitionPoint (λ y. ltb y t ≡ true) (λ y. ltb y t ≡ false) (ys ++ zs) r → r ≡ length ys
point_is ys zs low high t r before behind within point =
    elim (cases_lt r (length ys)) [
      | inl early ↦
          let not_below = ltb-false (get_or (ys ++ zs) r 0) t (point.1 r 0 (omega arith) (omega (arith, early, length-append ys zs))) in
          let it = before r 0 early in
          absurd (omega (arith, not_below, it.1, get_front ys zs r 0 early))
      | inr late ↦ elim (cases_lt (length ys) r) [
        | inl later ↦
            let below = ltb-true (get_or (ys ++ zs) (length ys) 0) t (point.0 (length ys) 0 (omega arith) later) in
            let it = behind 0 0 (omega (arith, later, within, length-append ys zs)) in
            absurd (omega (arith, below, it.0, get_next ys zs 0))
        | inr none ↦ omega (arith, late, none)
      ]
    ]

pub found_place : (start place r : ℕ) (log : List Entry) → start ≤ place → place ≤ length log → r ≤ length (lasting_places start log)
    → IsPartitionPoint (λ y. ltb y place ≡ true) (λ y. ltb y place ≡ false) (lasting_places start log) r → (start + r ≡ place_among start log place) × (start + r ≤ place)
found_place start place r log first within few point = (
  ap (λ (n : ℕ). start + n) (r_is ∙ places_length start (drop start a)) ∙ sym (length-append (take start a) (filter (λ (e : Entry). lasts e.event) (drop start a)) ∙ ap (λ (n : ℕ). n + length (filter (λ (e : Entry). lasts e.event) (drop start a))) taken),
  omega (arith, r_is, few_places start (drop start a), dropped, first),
)
  where
    a : List Entry
    a = take place log

    long : length a ≡ place
    long = length-take-le place log within

    taken : length (take start a) ≡ start
    taken = length-take-le start a (omega (arith, long, first))

    dropped : length (drop start a) ≡ place - start
    dropped = length-drop start a ∙ ap (λ (n : ℕ). n - start) long

    split : lasting_places start log ≡ places_from start (drop start a) ++ places_from place (drop place log)
    split =
        ap (λ (l : List Entry). places_from start (drop start l)) (sym (take-append-drop place log))
        ∙ ap (places_from start) (drop-append-le start a (drop place log) (omega (arith, long, first)))
        ∙ places_append start (drop start a) (drop place log)
        ∙ ap (λ (n : ℕ). places_from start (drop start a) ++ places_from n (drop place log)) (omega (arith, dropped, first))

    before : AreBetween start place (places_from start (drop start a))
    before = subst (λ (n : ℕ). AreBetween start n (places_from start (drop start a))) (omega (arith, dropped, first)) (places_between start (drop start a))

    r_is : r ≡ length (places_from start (drop start a))
    r_is =
        point_is (places_from start (drop start a)) (places_from place (drop place log)) start (place + length (drop place log)) place r before (places_between place (drop place log))
        (subst (λ (l : List ℕ). r ≤ length l) split few)
        (subst (λ (l : List ℕ). IsPartitionPoint (λ y. ltb y place ≡ true) (λ y. ltb y place ≡ false) l r) split point)
