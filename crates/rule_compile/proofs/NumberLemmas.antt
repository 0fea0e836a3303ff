-- Words by their numbers, and going through three lists of numbers at once.
use Rattle.std.proofs.Common.{◌≡◌, ◌++◌, ◌+◌, ◌≤◌, ℕ, suc, List, [], ◌∷◌, Bool, true, false, cond, Option, Some, None, refl, sym, ap, ◌∙◌, subst, length, drop, map, inl, inr, arith}
use Rattle.std.specs.Prelude.{nat_lt, slice_get}
use Rattle.std.proofs.lemmas.Bool.{lt-ltb, ltb-true, eq-eqb}
use Rattle.std.proofs.lemmas.Bool.Decides.{eqb_tells}
use Rattle.rule_compile.specs.Covering.{is_all_word, is_pattern_word, is_plain_word, may_cover}
use Rattle.rule_compile.specs.Index.{numbers_from, with_number}
use Rattle.rule_compile.specs.Numbers.{after, first_of, least_of}
use Rattle.rule_compile.specs.declared.rule.RepoWord.{RepoWord}
use Rattle.rule_compile.specs.declared.rule.RepoWord.TheVariants as repo

-- ---- one word in front, and one behind

pub in_front : (test : RepoWord → Bool) (k : ℕ) (w : RepoWord) (ws : List RepoWord) → test w ≡ true → numbers_from test k (w ∷ ws) ≡ k ∷ numbers_from test (suc k) ws
in_front test k w ws e = ap (λ (b : Bool). cond b (k ∷ numbers_from test (suc k) ws) (numbers_from test (suc k) ws)) e

pub not_in_front : (test : RepoWord → Bool) (k : ℕ) (w : RepoWord) (ws : List RepoWord) → test w ≡ false → numbers_from test k (w ∷ ws) ≡ numbers_from test (suc k) ws
not_in_front test k w ws e = ap (λ (b : Bool). cond b (k ∷ numbers_from test (suc k) ws) (numbers_from test (suc k) ws)) e

longer : (b here : Bool) (k n : ℕ) (xs : List ℕ) → cond b (k ∷ with_number xs here n) (with_number xs here n) ≡ with_number (cond b (k ∷ xs) xs) here n
longer true true k n xs = refl
longer true false k n xs = refl
longer false true k n xs = refl
longer false false k n xs = refl

pub numbers_behind : (test : RepoWord → Bool) (k : ℕ) (ws : List RepoWord) (w : RepoWord) → numbers_from test k (ws ++ w ∷ []) ≡ with_number (numbers_from test k ws) (test w) (k + length ws)
numbers_behind test k [] w = alone (test w) where
  alone : (b : Bool) → cond b (k ∷ []) [] ≡ with_number [] b (k + 0)
  alone true = ap (λ (n : ℕ). n ∷ []) (omega arith)
  alone false = refl
numbers_behind test k (v ∷ ws) w =
    ap (λ (xs : List ℕ). cond (test v) (k ∷ xs) xs) (numbers_behind test (suc k) ws w ∙ ap (λ (n : ℕ). with_number (numbers_from test (suc k) ws) (test w) n) (further k (length ws)))
    ∙ longer (test v) (test w) k (k + suc (length ws)) (numbers_from test (suc k) ws)
  where
    further : (k n : ℕ) → suc k + n ≡ k + suc n
    further k n = omega arith

-- ---- the least of three first numbers

-- a number, if there is one, from k on
abbrev FromOn : ℕ → Option ℕ → Type 0
FromOn k None = Unit {0}
FromOn k (Some n) = k ≤ n

weaker : (k : ℕ) (o : Option ℕ) → FromOn (suc k) o → FromOn k o
weaker k None h = tt
weaker k (Some n) h = omega (arith, h)

from_either : (b : Bool) (k : ℕ) (ns : List ℕ) → FromOn (suc k) (first_of ns) → FromOn k (first_of (cond b (k ∷ ns) ns))
from_either true k ns h = omega arith
from_either false k ns h = weaker k (first_of ns) h

first_from : (test : RepoWord → Bool) (k : ℕ) (ws : List RepoWord) → FromOn k (first_of (numbers_from test k ws))
first_from test k [] = tt
first_from test k (w ∷ ws) = from_either (test w) k (numbers_from test (suc k) ws) (first_from test (suc k) ws)

not_less : (k n : ℕ) → suc k ≤ n → nat_lt n k ≡ false
not_less k n h = by_case (nat_lt n k) refl where
  by_case : (b : Bool) → nat_lt n k ≡ b → nat_lt n k ≡ false
  by_case false e = e
  by_case true e = absurd (omega (arith, h, ltb-true n k e))

least_first : (k : ℕ) (o : Option ℕ) → FromOn (suc k) o → least_of (Some k) o ≡ Some k
least_first k None h = refl
least_first k (Some n) h = ap (λ (b : Bool). cond b (Some n) (Some k)) (not_less k n h)

least_second : (k : ℕ) (o : Option ℕ) → FromOn (suc k) o → least_of o (Some k) ≡ Some k
least_second k None h = refl
least_second k (Some n) h = ap (λ (b : Bool). cond b (Some k) (Some n)) (lt-ltb k n h)

least_from : (k : ℕ) (o p : Option ℕ) → FromOn k o → FromOn k p → FromOn k (least_of o p)
least_from k None p h g = g
least_from k (Some n) None h g = h
least_from k (Some n) (Some m) h g = by_case (nat_lt m n) where
  by_case : (b : Bool) → FromOn k (cond b (Some m) (Some n))
  by_case true = g
  by_case false = h

-- ---- what is left behind a number

after_here : (k : ℕ) (ns : List ℕ) → after (k ∷ ns) k ≡ ns
after_here k ns = ap (λ (b : Bool). cond b ns (k ∷ ns)) (eq-eqb k k refl)

after_later : (k : ℕ) (ns : List ℕ) → FromOn (suc k) (first_of ns) → after ns k ≡ ns
after_later k [] h = refl
after_later k (n ∷ ns) h = elim (eqb_tells n k) [
  | inl same ↦ absurd (omega (arith, h, same.1))
  | inr other ↦ ap (λ (b : Bool). cond b ns (n ∷ ns)) other.0
]

-- ---- the next number

-- it is that of a word some places further, and all lists have come there
pub record Goes (name : List ℕ) (k : ℕ) (ws : List RepoWord) (n : ℕ) : Type 0 where
  pub far : ℕ
  pub place : n ≡ k + far
  pub first : numbers_from (may_cover name) k ws ≡ n ∷ numbers_from (may_cover name) (suc n) (drop (suc far) ws)
  pub plain : after (numbers_from (is_plain_word name) k ws) n ≡ numbers_from (is_plain_word name) (suc n) (drop (suc far) ws)
  pub all : after (numbers_from is_all_word k ws) n ≡ numbers_from is_all_word (suc n) (drop (suc far) ws)
  pub patterns : after (numbers_from is_pattern_word k ws) n ≡ numbers_from is_pattern_word (suc n) (drop (suc far) ws)

abbrev pub Next : List ℕ → ℕ → List RepoWord → Option ℕ → Type 0
Next name k ws None = numbers_from (may_cover name) k ws ≡ []
Next name k ws (Some n) = Goes name k ws n

-- the least of the first numbers of the three lists
abbrev pub least_first_of : List ℕ → ℕ → List RepoWord → Option ℕ
least_first_of name k ws =
    least_of (least_of (first_of (numbers_from (is_plain_word name) k ws)) (first_of (numbers_from is_all_word k ws))) (first_of (numbers_from is_pattern_word k ws))

-- a list has come past a word that it doesn't have, or past one that it has
past : (test : RepoWord → Bool) (k : ℕ) (w : RepoWord) (ws : List RepoWord) (b : Bool) → test w ≡ b → after (numbers_from test k (w ∷ ws)) k ≡ numbers_from test (suc k) ws
past test k w ws true e = ap (λ (ns : List ℕ). after ns k) (in_front test k w ws e) ∙ after_here k _
past test k w ws false e = ap (λ (ns : List ℕ). after ns k) (not_in_front test k w ws e) ∙ after_later k _ (first_from test (suc k) ws)

-- the first word is the next
here : (name : List ℕ) (k : ℕ) (w : RepoWord) (ws : List RepoWord) → may_cover name w ≡ true → Goes name k (w ∷ ws) k
here name k w ws may = record {
  far = 0;
  place = omega arith;
  first = in_front (may_cover name) k w ws may;
  plain = past (is_plain_word name) k w ws _ refl;
  all = past is_all_word k w ws _ refl;
  patterns = past is_pattern_word k w ws _ refl;
}

-- the first word isn't in any list
later : (name : List ℕ) (k : ℕ) (w : RepoWord) (ws : List RepoWord) (o : Option ℕ) → may_cover name w ≡ false → is_plain_word name w ≡ false → is_all_word w ≡ false
    → is_pattern_word w ≡ false → Next name (suc k) ws o → Next name k (w ∷ ws) o
later name k w ws None may p a t h = not_in_front (may_cover name) k w ws may ∙ h
later name k w ws (Some n) may p a t h = record {
  far = suc h.far;
  place = further k h.far n h.place;
  first = not_in_front (may_cover name) k w ws may ∙ h.first;
  plain = ap (λ (ns : List ℕ). after ns n) (not_in_front (is_plain_word name) k w ws p) ∙ h.plain;
  all = ap (λ (ns : List ℕ). after ns n) (not_in_front is_all_word k w ws a) ∙ h.all;
  patterns = ap (λ (ns : List ℕ). after ns n) (not_in_front is_pattern_word k w ws t) ∙ h.patterns;
} where
  further : (k far n : ℕ) → n ≡ suc k + far → n ≡ k + suc far
  further k far n e = omega (arith, e)

firsts : (p q a b t u : List ℕ) → p ≡ q → a ≡ b → t ≡ u → least_of (least_of (first_of p) (first_of a)) (first_of t) ≡ least_of (least_of (first_of q) (first_of b)) (first_of u)
firsts p q a b t u e f g = rw (e, f, g)

next_of_plain : (name : List ℕ) (k : ℕ) (w : RepoWord) (ws : List RepoWord) (b : Bool) → is_plain_word name w ≡ b → may_cover name w ≡ b → is_all_word w ≡ false → is_pattern_word w ≡ false
    → Next name (suc k) ws (least_first_of name (suc k) ws) → Next name k (w ∷ ws) (least_first_of name k (w ∷ ws))
next_of_plain name k w ws true p may a t h =
    subst (Next name k (w ∷ ws))
    (sym (firsts _ _ _ _ _ _ (in_front (is_plain_word name) k w ws p) (not_in_front is_all_word k w ws a) (not_in_front is_pattern_word k w ws t)
    ∙ ap (λ (o : Option ℕ). least_of o (first_of (numbers_from is_pattern_word (suc k) ws))) (least_first k _ (first_from is_all_word (suc k) ws))
    ∙ least_first k _ (first_from is_pattern_word (suc k) ws)))
    (here name k w ws may)
next_of_plain name k w ws false p may a t h =
    subst (Next name k (w ∷ ws))
    (sym (firsts _ _ _ _ _ _ (not_in_front (is_plain_word name) k w ws p) (not_in_front is_all_word k w ws a) (not_in_front is_pattern_word k w ws t)))
    (later name k w ws _ may p a t h)

-- the least of the first numbers is the next number
pub goes_on : (name : List ℕ) (k : ℕ) (ws : List RepoWord) → Next name k ws (least_first_of name k ws)
goes_on name k [] = refl
goes_on name k (repo.Plain plain ∷ ws) = next_of_plain name k (repo.Plain plain) ws _ refl refl refl refl (goes_on name (suc k) ws)
goes_on name k (repo.All ∷ ws) =
    subst (Next name k (repo.All ∷ ws))
    (sym (ap (λ (o : Option ℕ). least_of o (first_of (numbers_from is_pattern_word (suc k) ws))) (least_second k _ (first_from (is_plain_word name) (suc k) ws))
    ∙ least_first k _ (first_from is_pattern_word (suc k) ws)))
    (here name k repo.All ws refl)
goes_on name k (repo.Pattern text ∷ ws) =
    subst (Next name k (repo.Pattern text ∷ ws))
    (sym (least_second k _ (least_from (suc k) _ _ (first_from (is_plain_word name) (suc k) ws) (first_from is_all_word (suc k) ws))))
    (here name k (repo.Pattern text) ws refl)

pub none_left : (name : List ℕ) (k : ℕ) (ws : List RepoWord) → None ≡ least_first_of name k ws → numbers_from (may_cover name) k ws ≡ []
none_left name k ws e = subst (Next name k ws) (sym e) (goes_on name k ws)

pub some_next : (name : List ℕ) (k n : ℕ) (ws : List RepoWord) → Some n ≡ least_first_of name k ws → Goes name k ws n
some_next name k n ws e = subst (Next name k ws) (sym e) (goes_on name k ws)

-- ---- the item that a number is of

-- it is some places further, and those before it don't count for F
pub record NextItem {X R : Type 0} (f : X → RepoWord) (F : List X → R) (name : List ℕ) (k : ℕ) (xs : List X) (n : ℕ) : Type 0 where
  pub far : ℕ
  pub item : X
  pub place : n ≡ k + far
  pub at : slice_get xs far ≡ Some item
  pub may : may_cover name (f item) ≡ true
  pub same : F xs ≡ F (item ∷ drop (suc far) xs)

module _ {X R : Type 0} (f : X → RepoWord) (F : List X → R) (name : List ℕ) (skips : (x : X) (xs : List X) → may_cover name (f x) ≡ false → F (x ∷ xs) ≡ F xs) where
  first_number : (k n : ℕ) (x : X) (xs : List X) (rest : List ℕ) (b : Bool) → may_cover name (f x) ≡ b
      → (may_cover name (f x) ≡ false → numbers_from (may_cover name) (suc k) (map f xs) ≡ n ∷ rest → NextItem f F name (suc k) xs n)
      → numbers_from (may_cover name) k (map f (x ∷ xs)) ≡ n ∷ rest → NextItem f F name k (x ∷ xs) n
  first_number k n x xs rest true may on e =
      let starts : k ∷ numbers_from (may_cover name) (suc k) (map f xs) ≡ n ∷ rest = sym (in_front (may_cover name) k (f x) (map f xs) may) ∙ e in
      let same : n ≡ k = cc in
      record { far = 0; item = x; place = same ∙ omega arith; at = refl; may = may; same = refl }
  first_number k n x xs rest false may on e =
      let h = on may (sym (not_in_front (may_cover name) k (f x) (map f xs) may) ∙ e) in
      record { far = suc h.far; item = h.item; place = further k h.far n h.place; at = h.at; may = h.may; same = skips x xs may ∙ h.same }
    where
      further : (k far n : ℕ) → n ≡ suc k + far → n ≡ k + suc far
      further k far n e = omega (arith, e)

  pub next_item : (k n : ℕ) (xs : List X) (rest : List ℕ) → numbers_from (may_cover name) k (map f xs) ≡ n ∷ rest → NextItem f F name k xs n
  next_item k n [] rest e = absurd (let bad : [] ≡ n ∷ rest = e in cc)
  next_item k n (x ∷ xs) rest e = first_number k n x xs rest _ refl (λ _ g. next_item (suc k) n xs rest g) e

  no_number : (k : ℕ) (x : X) (xs : List X) (b : Bool) → may_cover name (f x) ≡ b → (numbers_from (may_cover name) (suc k) (map f xs) ≡ [] → F xs ≡ F [])
      → numbers_from (may_cover name) k (map f (x ∷ xs)) ≡ [] → F (x ∷ xs) ≡ F []
  no_number k x xs true may on e = absurd (let bad : k ∷ numbers_from (may_cover name) (suc k) (map f xs) ≡ [] = sym (in_front (may_cover name) k (f x) (map f xs) may) ∙ e in cc)
  no_number k x xs false may on e = skips x xs may ∙ on (sym (not_in_front (may_cover name) k (f x) (map f xs) may) ∙ e)

  pub no_item : (k : ℕ) (xs : List X) → numbers_from (may_cover name) k (map f xs) ≡ [] → F xs ≡ F []
  no_item k [] e = refl
  no_item k (x ∷ xs) e = no_number k x xs _ refl (no_item (suc k) xs) e
