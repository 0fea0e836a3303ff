-- Lists of bytes.
use Rattle.std.proofs.Common.{◌≡◌, ℕ, zero, suc, List, [], ◌∷◌, ◌<◌, ◌≤◌, ◌-◌, Bool, true, false, ◌&&◌, ◌||◌, length, take, drop, get_or, nat_eq, refl, sym, ◌∙◌, ap, subst, arith}
use Rattle.std.proofs.lemmas.Bool.Decides.{nat_tests}
use Rattle.std.specs.List.{list_any}
use lib.Pointwise.{pointwise}
use Rattle.ref_store.specs.RefName.{occurs}

both_of_two : (p q : Bool) → (p && (q && true)) ≡ (p && q)
both_of_two true true = refl
both_of_two true false = refl
both_of_two false q = refl

never_both : (p : Bool) → ((p && false) || false) ≡ false
never_both true = refl
never_both false = refl

pair_at : (a b : ℕ) (text : List ℕ) (i : ℕ) → suc i < length text → occurs (a ∷ b ∷ []) (drop i text) ≡ ((nat_eq a (get_or text i 0) && nat_eq b (get_or text (suc i) 0)) || occurs (a ∷ b ∷ []) (drop (suc i) text))
pair_at a b [] i below = absurd (omega (arith, below))
pair_at a b (x ∷ []) i below = absurd (omega (arith, below))
pair_at a b (x ∷ y ∷ rest) zero below = ap (λ p. p || occurs (a ∷ b ∷ []) (y ∷ rest)) (both_of_two (nat_eq a x) (nat_eq b y))
pair_at a b (x ∷ y ∷ rest) (suc i) below = pair_at a b (y ∷ rest) i (omega (arith, below))

-- two bytes stand beside one another in what is left of the text, or begin it
pair_before : (a b : ℕ) (text : List ℕ) (i : ℕ) → 1 ≤ i → i < length text → occurs (a ∷ b ∷ []) (drop (i - 1) text) ≡ ((nat_eq a (get_or text (i - 1) 0) && nat_eq b (get_or text i 0)) || occurs (a ∷ b ∷ []) (drop i text))
pair_before a b text i one below =
    subst (λ n. occurs (a ∷ b ∷ []) (drop (i - 1) text) ≡ ((nat_eq a (get_or text (i - 1) 0) && nat_eq b (get_or text n 0)) || occurs (a ∷ b ∷ []) (drop n text)))
    (omega (arith, one)) (pair_at a b text (i - 1) (omega (arith, one, below)))

pub pair_here : (a b : ℕ) (text : List ℕ) (i : ℕ) → 1 ≤ i → i < length text → get_or text (i - 1) 0 ≡ a → get_or text i 0 ≡ b → occurs (a ∷ b ∷ []) (drop (i - 1) text) ≡ true
pair_here a b text i one below first second =
    let is_first : nat_eq a (get_or text (i - 1) 0) ≡ true = grind (arith, nat_tests, first) in
    let is_second : nat_eq b (get_or text i 0) ≡ true = grind (arith, nat_tests, second) in
    pair_before a b text i one below ∙ ap (λ p. (p && nat_eq b (get_or text i 0)) || occurs (a ∷ b ∷ []) (drop i text)) is_first ∙ ap (λ p. p || occurs (a ∷ b ∷ []) (drop i text)) is_second

pub pair_later : (a b : ℕ) (text : List ℕ) (i : ℕ) → 1 ≤ i → i < length text → (get_or text (i - 1) 0 ≡ a → get_or text i 0 ≡ b → ⊥) → occurs (a ∷ b ∷ []) (drop i text) ≡ occurs (a ∷ b ∷ []) (drop (i - 1) text)
pair_later a b text i one below other = sym (pair_before a b text i one below ∙ ap (λ p. p || occurs (a ∷ b ∷ []) (drop i text)) (by_tests (nat_eq a (get_or text (i - 1) 0)) refl (nat_eq b (get_or text i 0)) refl))
  where
    by_tests : (p : Bool) → nat_eq a (get_or text (i - 1) 0) ≡ p → (q : Bool) → nat_eq b (get_or text i 0) ≡ q → (p && q) ≡ false
    by_tests false _ q _ = refl
    by_tests true is false _ = refl
    by_tests true is true also =
        let first : get_or text (i - 1) 0 ≡ a = grind (arith, nat_tests, is) in
        let second : get_or text i 0 ≡ b = grind (arith, nat_tests, also) in
        absurd (other first second)

no_pair_at : (a b : ℕ) (text : List ℕ) (i : ℕ) → length text ≤ suc i → occurs (a ∷ b ∷ []) (drop i text) ≡ false
no_pair_at a b [] zero past = refl
no_pair_at a b [] (suc i) past = refl
no_pair_at a b (x ∷ []) zero past = never_both (nat_eq a x)
no_pair_at a b (x ∷ y ∷ rest) zero past = absurd (omega (arith, past))
no_pair_at a b (x ∷ rest) (suc i) past = no_pair_at a b rest i (omega (arith, past))

-- and not in its last byte
pub no_pair_past : (a b : ℕ) (text : List ℕ) (i : ℕ) → length text ≤ i → occurs (a ∷ b ∷ []) (drop (i - 1) text) ≡ false
no_pair_past a b text i past = no_pair_at a b text (i - 1) (omega (arith, past))

-- and nowhere where the first of them isn't
pub no_first : (a b : ℕ) (text : List ℕ) → list_any (λ y. nat_eq y a) text ≡ false → false ≡ occurs (a ∷ b ∷ []) text
no_first a b [] none = refl
no_first a b (x ∷ xs) none = by_test (nat_eq x a) refl (no_first a b xs)
  where
    by_test : (p : Bool) → nat_eq x a ≡ p → (list_any (λ y. nat_eq y a) xs ≡ false → false ≡ occurs (a ∷ b ∷ []) xs) → false ≡ occurs (a ∷ b ∷ []) (x ∷ xs)
    by_test true is later = let bad : true ≡ false = sym (ap (λ q. q || list_any (λ y. nat_eq y a) xs) is) ∙ none in cc bad
    by_test false is later =
        let other : nat_eq a x ≡ false = grind (arith, nat_tests, is) in
        let rest : list_any (λ y. nat_eq y a) xs ≡ false = sym (ap (λ q. q || list_any (λ y. nat_eq y a) xs) is) ∙ none in
        later rest ∙ sym (ap (λ q. (q && pointwise nat_eq (b ∷ []) (take 1 xs)) || occurs (a ∷ b ∷ []) xs) other)

pub take_past : (text : List ℕ) (n : ℕ) → length text ≤ n → take n text ≡ text
take_past [] zero past = refl
take_past [] (suc n) past = refl
take_past (x ∷ xs) zero past = absurd (omega (arith, past))
take_past (x ∷ xs) (suc n) past = ap (λ (l : List ℕ). x ∷ l) (take_past xs n (omega (arith, past)))
