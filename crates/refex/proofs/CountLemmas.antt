-- Counts are read as they are written.
use Rattle.std.proofs.Common.{◌≡◌, ℕ, ◌+◌, ◌-◌, ◌*◌, ◌/◌, ◌%◌, ◌<◌, ◌≤◌, ◌==◌, ◌&&◌, not, cond, if◌then◌else◌, nat_lt, nat_le, List, [], ◌∷◌, ◌++◌, Bool, true, false, None, Some, Option, IfSome, length, drop, drop-drop, codes, decimal, inl, inr, refl, sym, ◌∙◌, ap, subst, arith, append_assoc}
use Rattle.std.proofs.lemmas.Bool.Decides.{nat_tests}
use Rattle.std.proofs.lemmas.Bool.{cases_lt}
use Rattle.std.proofs.lemmas.List.{length-append}
use Rattle.std.proofs.lemmas.Nat.{div-mul-add, mod-mul-add}
use Rattle.std.proofs.lemmas.Fmt.{decimal_digit, decimal_step}
use Rattle.std.proofs.Math.Seq.{drop-append_seam}
use Rattle.refex.specs.Text.{digit, is_digit, number_of, number, count_upto, count_from, count, begins_with}
use Rattle.refex.proofs.Conditions.{if_true, if_false}
use Rattle.refex.specs.Counts.{IsCount, exactly, at_least, between, CountsAreRead}

-- ---- decimal numbers

-- the digits of a number up to 127
data Digits : ℕ → List ℕ → Type 0 where
  one : (a : ℕ) → a ≤ 9 → Digits a ((48 + a) ∷ [])
  two : (a b : ℕ) → 1 ≤ a → a ≤ 9 → b ≤ 9 → Digits (a * 10 + b) ((48 + a) ∷ (48 + b) ∷ [])
  three : (a b c : ℕ) → 1 ≤ a → a ≤ 9 → b ≤ 9 → c ≤ 9 → a * 100 + b * 10 + c ≤ 127 → Digits (a * 100 + b * 10 + c) ((48 + a) ∷ (48 + b) ∷ (48 + c) ∷ [])

step : (n m d : ℕ) → 1 ≤ m → m < 100 → d ≤ 9 → n ≡ m * 10 + d → decimal n ≡ decimal m ++ (48 + d) ∷ []
step n m d some small low is =
    let q : n / 10 ≡ m = ap (λ n. n / 10) is ∙ div-mul-add m 10 d (omega arith) in
    let r : n % 10 ≡ d = ap (λ n. n % 10) is ∙ mod-mul-add m 10 d (omega arith) in
    decimal_step n (omega arith) (omega arith) ∙ ap (λ m. decimal m ++ (48 + n % 10) ∷ []) q ∙ ap (λ d. decimal m ++ (48 + d) ∷ []) r

two_digits : (a b : ℕ) → 1 ≤ a → a ≤ 9 → b ≤ 9 → decimal (a * 10 + b) ≡ (48 + a) ∷ (48 + b) ∷ []
two_digits a b some low low2 = step (a * 10 + b) a b some (omega arith) low2 refl ∙ ap (λ xs. xs ++ (48 + b) ∷ []) (decimal_digit a (omega arith))

three_digits : (a b c : ℕ) → 1 ≤ a → a ≤ 9 → b ≤ 9 → c ≤ 9 → decimal (a * 100 + b * 10 + c) ≡ (48 + a) ∷ (48 + b) ∷ (48 + c) ∷ []
three_digits a b c some low low2 low3 =
    step (a * 100 + b * 10 + c) (a * 10 + b) c (omega arith) (omega arith) low3 (omega arith) ∙ ap (λ xs. xs ++ (48 + c) ∷ []) (two_digits a b some low low2)

digits_are : {n : ℕ} {ds : List ℕ} → Digits n ds → decimal n ≡ ds
digits_are (one a low) = decimal_digit a (omega arith)
digits_are (two a b some low low2) = two_digits a b some low low2
digits_are (three a b c some low low2 low3 small) = three_digits a b c some low low2 low3

digits_of : (n : ℕ) → n ≤ 127 → Digits n (decimal n)
digits_of n small = elim (cases_lt n 10) [
  | inl h ↦ subst (Digits n) (sym (decimal_digit n h)) (one n (omega arith))
  | inr h ↦ elim (cases_lt n 100) [
    | inl k ↦ let d : Digits (n / 10 * 10 + n % 10) ((48 + n / 10) ∷ (48 + n % 10) ∷ []) = two (n / 10) (n % 10) (omega arith) (omega arith) (omega arith) in
        let is : n / 10 * 10 + n % 10 ≡ n = omega arith in
        subst (λ m. Digits m (decimal m)) is (subst (Digits (n / 10 * 10 + n % 10)) (sym (digits_are d)) d)
    | inr k ↦ let d : Digits (1 * 100 + (n - 100) / 10 * 10 + (n - 100) % 10) ((48 + 1) ∷ (48 + (n - 100) / 10) ∷ (48 + (n - 100) % 10) ∷ []) =
        three 1 ((n - 100) / 10) ((n - 100) % 10) (omega arith) (omega arith) (omega arith) (omega arith) (omega arith) in
        let is : 1 * 100 + (n - 100) / 10 * 10 + (n - 100) % 10 ≡ n = omega arith in
        subst (λ m. Digits m (decimal m)) is (subst (Digits (1 * 100 + (n - 100) / 10 * 10 + (n - 100) % 10)) (sym (digits_are d)) d)
  ]
]

-- ---- one digit

abbrev as_digit : ℕ → Option ℕ
as_digit c = if is_digit c then Some (c - 48) else None

abbrev first_digit : List ℕ → Option ℕ
first_digit [] = None
first_digit (c ∷ _) = as_digit c

digit_0 : (bytes : List ℕ) → digit 0 bytes ≡ first_digit bytes
digit_0 [] = refl
digit_0 (a ∷ bytes) = let t : nat_lt 0 (length (a ∷ bytes)) ≡ true = grind (arith, nat_tests) in ap (λ t. cond (t && is_digit a) (Some (a - 48)) None) t

digit_1 : (a : ℕ) (bytes : List ℕ) → digit 1 (a ∷ bytes) ≡ first_digit bytes
digit_1 a [] = refl
digit_1 a (b ∷ bytes) = let t : nat_lt 1 (length (a ∷ b ∷ bytes)) ≡ true = grind (arith, nat_tests) in ap (λ t. cond (t && is_digit b) (Some (b - 48)) None) t

digit_2 : (a b : ℕ) (bytes : List ℕ) → digit 2 (a ∷ b ∷ bytes) ≡ first_digit bytes
digit_2 a b [] = refl
digit_2 a b (c ∷ bytes) = let t : nat_lt 2 (length (a ∷ b ∷ c ∷ bytes)) ≡ true = grind (arith, nat_tests) in ap (λ t. cond (t && is_digit c) (Some (c - 48)) None) t

digit_of : (d : ℕ) → d ≤ 9 → as_digit (48 + d) ≡ Some d
digit_of d low =
    let t : is_digit (48 + d) ≡ true = grind (arith, nat_tests) in
    let s : 48 + d - 48 ≡ d = omega arith in
    ap (λ t. cond t (Some (48 + d - 48)) None) t ∙ ap Some s

-- a byte is a digit or none
data IsDigit : ℕ → Option ℕ → Type 0 where
  this : (d : ℕ) → d ≤ 9 → IsDigit (48 + d) (Some d)
  other : {c : ℕ} → IsDigit c None

digit_case : (c : ℕ) (t : Bool) → is_digit c ≡ t → IsDigit c (cond t (Some (c - 48)) None)
digit_case c true e =
    let low : 48 ≤ c = grind (arith, nat_tests) in
    let high : c ≤ 57 = grind (arith, nat_tests) in
    subst (λ b. IsDigit b (Some (c - 48))) (let s : 48 + (c - 48) ≡ c = omega arith in s) (this (c - 48) (omega arith))
digit_case c false e = other

is_one : (c : ℕ) → IsDigit c (as_digit c)
is_one c = digit_case c (is_digit c) refl

-- ---- numbers

number_written : {n : ℕ} {ds : List ℕ} → Digits n ds → n ≤ 127 → (rest : List ℕ) → first_digit rest ≡ None → number (ds ++ rest) ≡ Some (n, length ds)
unfolding number
number_written (one a low) small rest ends =
    ap (λ d. number_of d (digit 1 ((48 + a) ∷ rest)) (digit 2 ((48 + a) ∷ rest))) (digit_0 ((48 + a) ∷ rest) ∙ digit_of a low)
    ∙ ap (λ d. number_of (Some a) d (digit 2 ((48 + a) ∷ rest))) (digit_1 (48 + a) rest ∙ ends)
number_written (two a b some low low2) small rest ends =
    let bytes : List ℕ = (48 + a) ∷ (48 + b) ∷ rest in
    let t : (a == 0) ≡ false = grind (arith, nat_tests) in
    ap (λ d. number_of d (digit 1 bytes) (digit 2 bytes)) (digit_0 bytes ∙ digit_of a low)
    ∙ ap (λ d. number_of (Some a) d (digit 2 bytes)) (digit_1 (48 + a) ((48 + b) ∷ rest) ∙ digit_of b low2)
    ∙ ap (λ d. number_of (Some a) (Some b) d) (digit_2 (48 + a) (48 + b) rest ∙ ends)
    ∙ ap (λ t. cond t None (Some (a * 10 + b, 2))) t
number_written (three a b c some low low2 low3 bound) small rest ends =
    let bytes : List ℕ = (48 + a) ∷ (48 + b) ∷ (48 + c) ∷ rest in
    let t : (a == 0) ≡ false = grind (arith, nat_tests) in
    let u : nat_lt 127 (a * 100 + b * 10 + c) ≡ false = grind (arith, nat_tests) in
    ap (λ d. number_of d (digit 1 bytes) (digit 2 bytes)) (digit_0 bytes ∙ digit_of a low)
    ∙ ap (λ d. number_of (Some a) d (digit 2 bytes)) (digit_1 (48 + a) ((48 + b) ∷ (48 + c) ∷ rest) ∙ digit_of b low2)
    ∙ ap (λ d. number_of (Some a) (Some b) d) (digit_2 (48 + a) (48 + b) ((48 + c) ∷ rest) ∙ digit_of c low3)
    ∙ ap (λ t. cond t None (cond (nat_lt 127 (a * 100 + b * 10 + c)) None (Some (a * 100 + b * 10 + c, 3)))) t
    ∙ ap (λ u. cond u None (Some (a * 100 + b * 10 + c, 3))) u

-- the bytes begin with the number
abbrev IsNumber : List ℕ → ℕ × ℕ → Type 0
IsNumber bytes x = (rest : List ℕ) × (x.0 ≤ 127) × (bytes ≡ decimal x.0 ++ rest) × (x.1 ≡ length (decimal x.0))

is_number : {n : ℕ} {ds : List ℕ} → Digits n ds → n ≤ 127 → (rest : List ℕ) (k : ℕ) → k ≡ length ds → IsNumber (ds ++ rest) (n, k)
is_number {ds = ds} d small rest k long = (rest, small, ap (λ ds. ds ++ rest) (sym (digits_are d)), long ∙ ap length (sym (digits_are d)))

three_read : (bytes : List ℕ) (a b c : ℕ) → bytes ≡ (48 + a) ∷ (48 + b) ∷ (48 + c) ∷ drop 3 bytes → a ≤ 9 → b ≤ 9 → c ≤ 9 → (t u : Bool) → (a == 0) ≡ t → nat_lt 127 (a * 100 + b * 10 + c) ≡ u
    → IfSome (cond t None (cond u None (Some (a * 100 + b * 10 + c, 3)))) (IsNumber bytes)
three_read bytes a b c is low low2 low3 true u e f = tt
three_read bytes a b c is low low2 low3 false true e f = tt
three_read bytes a b c is low low2 low3 false false e f =
    let some : 1 ≤ a = grind (arith, nat_tests) in
    let small : a * 100 + b * 10 + c ≤ 127 = grind (arith, nat_tests) in
    subst (λ bs. IsNumber bs (a * 100 + b * 10 + c, 3)) (sym is) (is_number (three a b c some low low2 low3 small) small (drop 3 bytes) 3 refl)

two_read : (bytes : List ℕ) (a b : ℕ) → bytes ≡ (48 + a) ∷ (48 + b) ∷ drop 2 bytes → a ≤ 9 → b ≤ 9 → (t : Bool) → (a == 0) ≡ t
    → IfSome (cond t None (Some (a * 10 + b, 2))) (IsNumber bytes)
two_read bytes a b is low low2 true e = tt
two_read bytes a b is low low2 false e =
    let some : 1 ≤ a = grind (arith, nat_tests) in
    subst (λ bs. IsNumber bs (a * 10 + b, 2)) (sym is) (is_number (two a b some low low2) (omega arith) (drop 2 bytes) 2 refl)

number_read : (bytes : List ℕ) → IfSome (number bytes) (IsNumber bytes)
unfolding number
number_read [] = tt
number_read (x ∷ xs) = subst (λ d. IfSome (number_of d (digit 1 (x ∷ xs)) (digit 2 (x ∷ xs))) (IsNumber (x ∷ xs))) (sym (digit_0 (x ∷ xs))) (first x (as_digit x) xs (is_one x))
  where
    third : (a b z : ℕ) (d : Option ℕ) (xs : List ℕ) → a ≤ 9 → b ≤ 9 → IsDigit z d → IfSome (number_of (Some a) (Some b) d) (IsNumber ((48 + a) ∷ (48 + b) ∷ z ∷ xs))
    third a b z None xs low low2 other = two_read ((48 + a) ∷ (48 + b) ∷ z ∷ xs) a b refl low low2 (a == 0) refl
    third a b _ (Some _) xs low low2 (this c low3) =
        three_read ((48 + a) ∷ (48 + b) ∷ (48 + c) ∷ xs) a b c refl low low2 low3 (a == 0) (nat_lt 127 (a * 100 + b * 10 + c)) refl refl

    third_of : (a b : ℕ) (xs : List ℕ) → a ≤ 9 → b ≤ 9 → IfSome (number_of (Some a) (Some b) (first_digit xs)) (IsNumber ((48 + a) ∷ (48 + b) ∷ xs))
    third_of a b [] low low2 = two_read ((48 + a) ∷ (48 + b) ∷ []) a b refl low low2 (a == 0) refl
    third_of a b (z ∷ xs) low low2 = third a b z (as_digit z) xs low low2 (is_one z)

    second : (a y : ℕ) (d : Option ℕ) (xs : List ℕ) → a ≤ 9 → IsDigit y d → IfSome (number_of (Some a) d (digit 2 ((48 + a) ∷ y ∷ xs))) (IsNumber ((48 + a) ∷ y ∷ xs))
    second a y None xs low other = is_number (one a low) (omega arith) (y ∷ xs) 1 refl
    second a _ (Some _) xs low (this b low2) =
        subst (λ d. IfSome (number_of (Some a) (Some b) d) (IsNumber ((48 + a) ∷ (48 + b) ∷ xs))) (sym (digit_2 (48 + a) (48 + b) xs)) (third_of a b xs low low2)

    second_of : (a : ℕ) (xs : List ℕ) → a ≤ 9 → IfSome (number_of (Some a) (first_digit xs) (digit 2 ((48 + a) ∷ xs))) (IsNumber ((48 + a) ∷ xs))
    second_of a [] low = is_number (one a low) (omega arith) [] 1 refl
    second_of a (y ∷ xs) low = second a y (as_digit y) xs low (is_one y)

    first : (x : ℕ) (d : Option ℕ) (xs : List ℕ) → IsDigit x d → IfSome (number_of d (digit 1 (x ∷ xs)) (digit 2 (x ∷ xs))) (IsNumber (x ∷ xs))
    first x None xs other = tt
    first _ (Some _) xs (this a low) =
        subst (λ d. IfSome (number_of (Some a) d (digit 2 ((48 + a) ∷ xs))) (IsNumber ((48 + a) ∷ xs))) (sym (digit_1 (48 + a) xs)) (second_of a xs low)

-- ---- counts

begun : (c : ℕ) (bytes : List ℕ) → begins_with c bytes ≡ true → (rest : List ℕ) × (bytes ≡ c ∷ rest)
begun c [] e = absurd (let f : false ≡ true = e in cc)
begun c (b ∷ bytes) e = let same : b ≡ c = grind (arith, nat_tests) in (bytes, ap (λ b. b ∷ bytes) same)

-- the bytes begin with the count
abbrev pub Begins : List ℕ → ℕ × Option ℕ × ℕ → Type 0
Begins bytes x = (word rest : List ℕ) × (bytes ≡ word ++ rest) × (x.2 ≡ length word) × IsCount x.0 x.1 word

begins : {n : ℕ} {most : Option ℕ} {word : List ℕ} → IsCount n most word → (bytes rest : List ℕ) (k : ℕ) → bytes ≡ word ++ rest → k ≡ length word → Begins bytes (n, most, k)
begins {word = word} w bytes rest k is long = (word, rest, is, long, w)

-- two numbers, with the appends to the right
between_word : (n m : ℕ) → decimal n ++ codes "," ++ decimal m ++ codes "}" ≡ decimal n ++ 44 ∷ (decimal m ++ 125 ∷ [])
between_word n m = append_assoc (decimal n ++ 44 ∷ []) (decimal m) (125 ∷ []) ∙ append_assoc (decimal n) (44 ∷ []) (decimal m ++ 125 ∷ [])

-- behind the number and the comma
upto_read : (n k : ℕ) (bytes : List ℕ) (o : Option (ℕ × ℕ)) → k ≡ length (decimal n) → bytes ≡ decimal n ++ 44 ∷ drop (k + 1) bytes → IfSome o (IsNumber (drop (k + 1) bytes))
    → IfSome (count_upto n (k + 1) bytes o) (Begins bytes)
upto_read n k bytes None long is h = tt
upto_read n k bytes (Some m) long is (rest, small, next, more) = both (nat_le n m.0) (begins_with 125 (drop (k + 1 + m.1) bytes)) refl refl
  where
    behind : drop (k + 1 + m.1) bytes ≡ rest
    behind = sym (drop-drop m.1 (k + 1) bytes) ∙ ap (drop m.1) next ∙ ap (λ i. drop i (decimal m.0 ++ rest)) more ∙ drop-append_seam (decimal m.0) rest

    both : (t u : Bool) → nat_le n m.0 ≡ t → begins_with 125 (drop (k + 1 + m.1) bytes) ≡ u → IfSome (cond (t && u) (Some (n, Some m.0, k + 1 + m.1 + 1)) None) (Begins bytes)
    both true true e f =
        let le : n ≤ m.0 = grind (arith, nat_tests) in
        let b = begun 125 (drop (k + 1 + m.1) bytes) f in
        let end : decimal n ++ 44 ∷ (decimal m.0 ++ 125 ∷ b.0) ≡ (decimal n ++ 44 ∷ (decimal m.0 ++ 125 ∷ [])) ++ b.0 =
        ap (λ xs. decimal n ++ 44 ∷ xs) (sym (append_assoc (decimal m.0) (125 ∷ []) b.0)) ∙ sym (append_assoc (decimal n) (44 ∷ (decimal m.0 ++ 125 ∷ [])) b.0) in
        let word = between_word n m.0 in
        begins (between le small) bytes b.0 (k + 1 + m.1 + 1)
        (is ∙ ap (λ xs. decimal n ++ 44 ∷ xs) (next ∙ ap (λ xs. decimal m.0 ++ xs) (sym behind ∙ b.1)) ∙ end ∙ ap (λ w. w ++ b.0) (sym word))
        (omega (arith, long, more, ap length word, length-append (decimal n) (44 ∷ (decimal m.0 ++ 125 ∷ [])), length-append (decimal m.0) (125 ∷ [])))
    both true false e f = tt
    both false u e f = tt

from_read : (bytes : List ℕ) (o : Option (ℕ × ℕ)) → IfSome o (IsNumber bytes) → IfSome (count_from bytes o) (Begins bytes)
from_read bytes None h = tt
from_read bytes (Some n) (rest, small, is, long) =
    cases (begins_with 125 (drop n.1 bytes)) (begins_with 44 (drop n.1 bytes)) (begins_with 125 (drop (n.1 + 1) bytes)) refl refl refl
  where
    behind : drop n.1 bytes ≡ rest
    behind = ap (drop n.1) is ∙ ap (λ i. drop i (decimal n.0 ++ rest)) long ∙ drop-append_seam (decimal n.0) rest

    front : (c : ℕ) → begins_with c (drop n.1 bytes) ≡ true → bytes ≡ decimal n.0 ++ c ∷ drop (n.1 + 1) bytes
    front c e =
        let b = begun c (drop n.1 bytes) e in
        is ∙ ap (λ xs. decimal n.0 ++ xs) (sym behind ∙ b.1 ∙ ap (λ xs. c ∷ xs) (sym (sym (drop-drop 1 n.1 bytes) ∙ ap (drop 1) b.1)))

    cases : (t u v : Bool) → begins_with 125 (drop n.1 bytes) ≡ t → begins_with 44 (drop n.1 bytes) ≡ u → begins_with 125 (drop (n.1 + 1) bytes) ≡ v
        → IfSome (cond t (Some (n.0, Some n.0, n.1 + 1)) (cond (not u) None (cond v (Some (n.0, None, n.1 + 2)) (count_upto n.0 (n.1 + 1) bytes (number (drop (n.1 + 1) bytes)))))) (Begins bytes)
    cases true u v e f g = begins (exactly small) bytes (drop (n.1 + 1) bytes) (n.1 + 1)
        (front 125 e ∙ sym (append_assoc (decimal n.0) (125 ∷ []) (drop (n.1 + 1) bytes)))
        (omega (arith, long, length-append (decimal n.0) (125 ∷ [])))
    cases false false v e f g = tt
    cases false true true e f g =
        let b = begun 125 (drop (n.1 + 1) bytes) g in
        begins (at_least small) bytes b.0 (n.1 + 2)
        (front 44 f ∙ ap (λ xs. decimal n.0 ++ 44 ∷ xs) b.1 ∙ sym (append_assoc (decimal n.0) (44 ∷ 125 ∷ []) b.0))
        (omega (arith, long, length-append (decimal n.0) (44 ∷ 125 ∷ [])))
    cases false true false e f g = upto_read n.0 n.1 bytes (number (drop (n.1 + 1) bytes)) long (front 44 f) (number_read (drop (n.1 + 1) bytes))

pub count_read : (bytes : List ℕ) → IfSome (count bytes) (Begins bytes)
unfolding count
count_read bytes = from_read bytes (number bytes) (number_read bytes)

-- the number at the front of a count is read
from_number : (n : ℕ) (bytes rest : List ℕ) → n ≤ 127 → bytes ≡ decimal n ++ rest → first_digit rest ≡ None → count bytes ≡ count_from bytes (Some (n, length (decimal n)))
unfolding count
from_number n bytes rest small is ends = ap (count_from bytes) (ap number is ∙ number_written (digits_of n small) small rest ends)

behind_number : (n : ℕ) (bytes rest : List ℕ) → bytes ≡ decimal n ++ rest → drop (length (decimal n)) bytes ≡ rest
behind_number n bytes rest is = ap (drop (length (decimal n))) is ∙ drop-append_seam (decimal n) rest

behind_comma : (n : ℕ) (bytes rest : List ℕ) → bytes ≡ decimal n ++ 44 ∷ rest → drop (length (decimal n) + 1) bytes ≡ rest
behind_comma n bytes rest is = sym (drop-drop 1 (length (decimal n)) bytes) ∙ ap (drop 1) (behind_number n bytes (44 ∷ rest) is)

pub count_written : {least : ℕ} {most : Option ℕ} {word : List ℕ} → IsCount least most word → (rest : List ℕ) → count (word ++ rest) ≡ Some (least, most, length word)
count_written (exactly {n = n} small) rest =
    let bytes : List ℕ = (decimal n ++ 125 ∷ []) ++ rest in
    let is : bytes ≡ decimal n ++ 125 ∷ rest = append_assoc (decimal n) (125 ∷ []) rest in
    from_number n bytes (125 ∷ rest) small is refl
    ∙ if_true (begins_with 125 (drop (length (decimal n)) bytes)) _ _ (ap (begins_with 125) (behind_number n bytes (125 ∷ rest) is))
    ∙ ap (λ k. Some (n, Some n, k)) (sym (length-append (decimal n) (125 ∷ [])))
count_written (at_least {n = n} small) rest =
    let bytes : List ℕ = (decimal n ++ 44 ∷ 125 ∷ []) ++ rest in
    let is : bytes ≡ decimal n ++ 44 ∷ 125 ∷ rest = append_assoc (decimal n) (44 ∷ 125 ∷ []) rest in
    let behind = behind_number n bytes (44 ∷ 125 ∷ rest) is in
    from_number n bytes (44 ∷ 125 ∷ rest) small is refl
    ∙ if_false (begins_with 125 (drop (length (decimal n)) bytes)) _ _ (ap (begins_with 125) behind)
    ∙ if_false (not (begins_with 44 (drop (length (decimal n)) bytes))) _ _ (ap (λ xs. not (begins_with 44 xs)) behind)
    ∙ if_true (begins_with 125 (drop (length (decimal n) + 1) bytes)) _ _ (ap (begins_with 125) (behind_comma n bytes (125 ∷ rest) is))
    ∙ ap (λ k. Some (n, None, k)) (sym (length-append (decimal n) (44 ∷ 125 ∷ [])))
count_written (between {n = n} {m = m} le small) rest =
    let bytes : List ℕ = (decimal n ++ 44 ∷ (decimal m ++ 125 ∷ [])) ++ rest in
    let next : List ℕ = decimal m ++ 125 ∷ rest in
    let is : bytes ≡ decimal n ++ 44 ∷ next =
    append_assoc (decimal n) (44 ∷ (decimal m ++ 125 ∷ [])) rest ∙ ap (λ xs. decimal n ++ 44 ∷ xs) (append_assoc (decimal m) (125 ∷ []) rest) in
    let behind = behind_number n bytes (44 ∷ next) is in
    let comma = behind_comma n bytes next is in
    let last = sym (drop-drop (length (decimal m)) (length (decimal n) + 1) bytes) ∙ ap (drop (length (decimal m))) comma ∙ drop-append_seam (decimal m) (125 ∷ rest) in
    let fits : nat_le n m ≡ true = grind (arith, nat_tests) in
    let both : nat_le n m && begins_with 125 (drop (length (decimal n) + 1 + length (decimal m)) bytes) ≡ true =
    ap (λ t. t && begins_with 125 (drop (length (decimal n) + 1 + length (decimal m)) bytes)) fits ∙ ap (begins_with 125) last in
    let word = between_word n m in
    ap (λ w. count (w ++ rest)) word
    ∙ from_number n bytes (44 ∷ next) (omega arith) is refl
    ∙ if_false (begins_with 125 (drop (length (decimal n)) bytes)) _ _ (ap (begins_with 125) behind)
    ∙ if_false (not (begins_with 44 (drop (length (decimal n)) bytes))) _ _ (ap (λ xs. not (begins_with 44 xs)) behind)
    ∙ if_false (begins_with 125 (drop (length (decimal n) + 1) bytes)) _ _ (ap (begins_with 125) comma ∙ no_brace (digits_of m small))
    ∙ ap (count_upto n (length (decimal n) + 1) bytes) (ap number comma ∙ number_written (digits_of m small) small (125 ∷ rest) refl)
    ∙ if_true (nat_le n m && begins_with 125 (drop (length (decimal n) + 1 + length (decimal m)) bytes)) _ _ both
    ∙ ap (λ k. Some (n, Some m, k)) (omega (arith, ap length word, length-append (decimal n) (44 ∷ (decimal m ++ 125 ∷ [])), length-append (decimal m) (125 ∷ [])))
  where
    no_brace : {m : ℕ} {ds : List ℕ} → Digits m ds → begins_with 125 (ds ++ 125 ∷ rest) ≡ false
    no_brace (one a low) = grind (arith, nat_tests)
    no_brace (two a b some low low2) = grind (arith, nat_tests)
    no_brace (three a b c some low low2 low3 bound) = grind (arith, nat_tests)

pub counts_are_read : CountsAreRead
counts_are_read bytes least most used = (
  λ e. subst (λ o. IfSome o (Begins bytes)) e (count_read bytes),
  λ (word, rest, is, long, w). ap count is ∙ count_written w rest ∙ ap (λ k. Some (least, most, k)) (sym long),
)
