-- Whether a list is in the language of a pattern is decided, case by case.
use Rattle.std.proofs.Common.{◌≡◌, ℕ, zero, suc, ◌+◌, ◌<◌, ◌≤◌, max, inl, inr, ◌⊎◌, ◌↔◌, List, [], ◌∷◌, ◌++◌, Option, Some, None, Bool, true, false, length, length-append, refl, sym, ap, subst, arith}
use Rattle.std.specs.Prelude.{IsTrue, IfSome}
use Rattle.std.specs.Bool.{Decides}
use Rattle.std.specs.Str.{bytes_eq}
use Rattle.std.proofs.lemmas.Bool.{both_ways, cases_eq, cases_lt}
use Rattle.std.proofs.lemmas.Slice.Eq.{bytes_eq-Decides}
use Rattle.refex.specs.Pattern.{Pattern, Nothing, Bytes, End, Name, Then, Either, Repeat, Joined, Times, Repeats, In, Starts, Whole, end_mark}

-- it holds, or it doesn't
abbrev pub Decided : Type 0 → Type 0
Decided A = A ⊎ (A → ⊥)

pub same_as : {A B : Type 0} → (A → B) → (B → A) → Decided A → Decided B
same_as f g (inl a) = inl (f a)
same_as f g (inr none) = inr (λ b. none (g b))

pub both : {A B : Type 0} → Decided A → Decided B → Decided (A × B)
both (inl a) (inl b) = inl (a, b)
both (inl a) (inr none) = inr (λ x. none x.1)
both (inr none) b = inr (λ x. none x.0)

pub one_of : {A B : Type 0} → Decided A → Decided B → Decided (A ⊎ B)
one_of (inl a) b = inl (inl a)
one_of (inr none) (inl b) = inl (inr b)
one_of (inr none) (inr nor) = inr (λ x. elim x [ inl a ↦ none a | inr b ↦ nor b ])

pub answer : {A : Type 0} → Decided A → Bool
answer (inl a) = true
answer (inr none) = false

pub answer_is : {A : Type 0} (d : Decided A) → IsTrue (answer d) ↔ A
unfolding answer
answer_is (inl a) = (λ t. a, λ x. refl)
answer_is (inr none) = (λ t. absurd (both_ways false refl t), λ x. absurd (none x))

by_truth : {A : Type 0} (b : Bool) → Decides b A → Decided A
by_truth true d = inl (d.0 refl)
by_truth false d = inr (λ a. both_ways false refl (d.1 a))

pub truth : (b : Bool) → Decided (IsTrue b)
truth true = inl refl
truth false = inr (both_ways false refl)

pub at_most : (m n : ℕ) → Decided (m ≤ n)
at_most m n = elim (cases_lt n m) [
  | inl less ↦ inr (λ le. omega arith)
  | inr le ↦ inl le
]

pub same_list : (v w : List ℕ) → Decided (v ≡ w)
same_list v w = by_truth (bytes_eq v w) (bytes_eq-Decides v w)

-- one part behind another
module _ (M : List ℕ → Type 0) (m : (w : List ℕ) → Decided (M w)) where
  of_nothing : (L : List ℕ → Type 0) (u v : List ℕ) → [] ≡ u ++ v → L u → M v → L [] × M []
  of_nothing L [] v e x y = (x, subst M (sym e) y)
  of_nothing L (c ∷ u) v e x y = absurd (let bad : [] ≡ c ∷ (u ++ v) = e in cc)

  of_more : (L : List ℕ → Type 0) (b : ℕ) (w u v : List ℕ) → b ∷ w ≡ u ++ v → L u → M v → (L [] × M (b ∷ w)) ⊎ Joined (λ t. L (b ∷ t)) M w
  of_more L b w [] v e x y = inl (x, subst M (sym e) y)
  of_more L b w (c ∷ u) v e x y =
      let whole : b ∷ w ≡ c ∷ (u ++ v) = e in
      let head : c ≡ b = cc in
      let rest : w ≡ u ++ v = cc in
      inr (u, v, rest, subst (λ (n : ℕ). L (n ∷ u)) head x, y)

  to_more : (L : List ℕ → Type 0) (b : ℕ) (w : List ℕ) → (L [] × M (b ∷ w)) ⊎ Joined (λ t. L (b ∷ t)) M w → Joined L M (b ∷ w)
  to_more L b w (inl x) = ([], b ∷ w, refl, x.0, x.1)
  to_more L b w (inr (u, v, e, x, y)) = (b ∷ u, v, ap (λ (t : List ℕ). b ∷ t) e, x, y)

  pub joined : (L : List ℕ → Type 0) → ((w : List ℕ) → Decided (L w)) → (w : List ℕ) → Decided (Joined L M w)
  joined L l [] = same_as (λ x. ([], [], refl, x.0, x.1)) (λ (u, v, e, x, y). of_nothing L u v e x y) (both (l []) (m []))
  joined L l (b ∷ w) = same_as (to_more L b w) (λ (u, v, e, x, y). of_more L b w u v e x y)
      (one_of (both (l []) (m (b ∷ w))) (joined (λ t. L (b ∷ t)) (λ t. l (b ∷ t)) w))

-- some number up to a bound
module _ (P : ℕ → Type 0) (p : (k : ℕ) → Decided (P k)) where
  to_last : (n : ℕ) → P (suc n) ⊎ ((k : ℕ) × (k ≤ n) × P k) → (k : ℕ) × (k ≤ suc n) × P k
  to_last n (inl x) = (suc n, omega arith, x)
  to_last n (inr (k, le, x)) = (k, omega arith, x)

  of_last : (n k : ℕ) → k ≤ suc n → P k → P (suc n) ⊎ ((k : ℕ) × (k ≤ n) × P k)
  of_last n k le x = elim (cases_eq k (suc n)) [
    | inl e ↦ inl (subst P e x)
    | inr ne ↦ inr (k, omega arith, x)
  ]

  pub up_to : (n : ℕ) → Decided ((k : ℕ) × (k ≤ n) × P k)
  up_to zero = same_as (λ x. (0, omega arith, x)) (λ (k, le, x). subst P (let zeroed : k ≡ 0 = omega arith in zeroed) x) (p 0)
  up_to (suc n) = same_as (to_last n) (λ (k, le, x). of_last n k le x) (one_of (p (suc n)) (up_to n))

module _ (L : List ℕ → Type 0) where
  -- more parts than bytes: one of them is empty
  one_fewer : (k : ℕ) (w u v : List ℕ) → length w < suc k → w ≡ u ++ v → L u → Times L k v → Times L k w
  one_fewer k w [] v short e x y = subst (Times L k) (sym e) y
  one_fewer zero w (b ∷ u) v short e x y =
      let sizes : length w ≡ length (b ∷ u) + length v = subst (λ (n : ℕ). length w ≡ n) (length-append (b ∷ u) v) (ap length e) in
      absurd (omega (arith, sizes, short))
  one_fewer (suc k) w (b ∷ u) v short e x (s, t, f, y, z) =
      let sizes : length w ≡ length (b ∷ u) + length v = subst (λ (n : ℕ). length w ≡ n) (length-append (b ∷ u) v) (ap length e) in
      (b ∷ u, v, e, x, one_fewer k v s t (omega (arith, sizes, short)) f y z)

  no_more : (n k : ℕ) (w : List ℕ) → length w ≤ n → n ≤ k → Times L k w → Times L n w
  no_more n zero w fits le t = subst (λ (i : ℕ). Times L i w) (let zeroed : 0 ≡ n = omega arith in zeroed) t
  no_more n (suc k) w fits le t = elim (cases_eq n (suc k)) [
    | inl e ↦ subst (λ (i : ℕ). Times L i w) (sym e) t
    | inr ne ↦ no_more n k w fits (omega arith) (one_fewer k w t.0 t.1 (omega arith) t.2 t.3 t.4)
  ]

  module _ (l : (w : List ℕ) → Decided (L w)) where
    times : (k : ℕ) (w : List ℕ) → Decided (Times L k w)
    times zero w = same_list w []
    times (suc k) w = joined (Times L k) (times k) L l w

    within : (most : Option ℕ) (k : ℕ) → Decided (IfSome most (λ m. k ≤ m))
    within None k = inl tt
    within (Some m) k = at_most k m

    fewer : (most : Option ℕ) (n k : ℕ) → n ≤ k → IfSome most (λ m. k ≤ m) → IfSome most (λ m. n ≤ m)
    fewer None n k le x = tt
    fewer (Some m) n k le x = omega arith

    abbrev Parts : ℕ → Option ℕ → List ℕ → ℕ → Type 0
    Parts least most w k = (least ≤ k) × IfSome most (λ m. k ≤ m) × Times L k w

    parts : (least : ℕ) (most : Option ℕ) (w : List ℕ) (k : ℕ) → Decided (Parts least most w k)
    parts least most w k = same_as (λ x. (x.0, x.1.0, x.1.1)) (λ x. (x.0, (x.1, x.2))) (both (at_most least k) (both (within most k) (times k w)))

    few : (least : ℕ) (most : Option ℕ) (w : List ℕ) (k : ℕ) → least ≤ k → IfSome most (λ m. k ≤ m) → Times L k w
        → (n : ℕ) × (n ≤ max least (length w)) × Parts least most w n
    few least most w k from to t = elim (cases_lt (max least (length w)) k) [
      | inl more ↦ (max least (length w), omega arith, (omega arith, fewer most (max least (length w)) k (omega arith) to, no_more (max least (length w)) k w (omega arith) (omega arith) t))
      | inr le ↦ (k, le, (from, to, t))
    ]

    pub repeats : (least : ℕ) (most : Option ℕ) (w : List ℕ) → Decided (Repeats L least most w)
    repeats least most w = same_as (λ (n, le, x). (n, x.0, x.1, x.2)) (λ (k, from, to, t). few least most w k from to t)
        (up_to (Parts least most w) (parts least most w) (max least (length w)))

one_byte : (set : ℕ → Bool) (name w : List ℕ) → Decided (In (Bytes set) name w)
one_byte set name [] = inr (λ (b, lt, t, e). let bad : [] ≡ b ∷ [] = e in cc)
one_byte set name (c ∷ []) = same_as (λ x. (c, x.0, x.1, refl)) (λ (b, lt, t, e). let whole : c ∷ [] ≡ b ∷ [] = e in let same : b ≡ c = cc in (subst (λ (n : ℕ). suc n ≤ 256) same lt, subst (λ (n : ℕ). IsTrue (set n)) same t))
    (both (at_most (suc c) 256) (truth (set c)))
one_byte set name (c ∷ d ∷ w) = inr (λ (b, lt, t, e). let bad : c ∷ d ∷ w ≡ b ∷ [] = e in cc)

-- the list is in the language of the pattern, or it isn't
pub decided_in : (p : Pattern) (name w : List ℕ) → Decided (In p name w)
decided_in Nothing name w = same_list w []
decided_in (Bytes set) name w = one_byte set name w
decided_in End name w = same_list w (end_mark ∷ [])
decided_in Name name w = same_list w name
decided_in (Then p q) name w = joined (In q name) (decided_in q name) (In p name) (decided_in p name) w
decided_in (Either p q) name w = one_of (decided_in p name w) (decided_in q name w)
decided_in (Repeat p least most) name w = repeats (In p name) (decided_in p name) least most w

pub decided_starts : (p : Pattern) (name text : List ℕ) → Decided (Starts p name text)
decided_starts p name text = same_as (λ (u, v, e, x, y). (u, v, e, x)) (λ (u, v, e, x). (u, v, e, x, tt))
    (joined (λ v. Unit {0}) (λ v. inl tt) (In p name) (decided_in p name) (text ++ end_mark ∷ []))

pub decided_whole : (p : Pattern) (name text : List ℕ) → Decided (Whole p name text)
decided_whole p name text = one_of (decided_in p name text) (decided_in p name (text ++ end_mark ∷ []))
