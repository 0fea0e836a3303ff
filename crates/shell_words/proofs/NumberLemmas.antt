-- Numbers and their decimal digits.
use Rattle.std.proofs.Common.{◌≡◌, ◌∙◌, ℕ, ◌<◌, ◌≤◌, ◌^◌, List, true, sym, ap, refl}
use Rattle.std.specs.Prelude.{Some, None, decimal, nat_le, ◌&&◌}
use Rattle.std.specs.Str.{bytes_eq}
use Rattle.std.specs.Str.Parse.{digits_value}
use Rattle.std.proofs.lemmas.Bool.{and_parts, cond-false, false_from_ne_true, le-leb, leb-true}
use Rattle.std.proofs.lemmas.Slice.Eq.{bytes_eq-Decides}
use Rattle.std.proofs.lemmas.Fmt.{decimal_is_IsNumeral}
use Rattle.shell_words.specs.Numbers.{number_in}

-- decimal digits are read as their number
pub number_in-decimal : (least most n : ℕ) (text : List ℕ) → n < 2 ^ 64 → text ≡ decimal n → least ≤ n → n ≤ most → number_in least most text ≡ Some n
number_in-decimal least most n text small e low high =
    let value : digits_value 10 text ≡ n = ap (λ t. digits_value 10 t) e ∙ (decimal_is_IsNumeral n small).1 in
    let same : bytes_eq (decimal n) text ≡ true = (bytes_eq-Decides _ _).1 (sym e) in
    let above : nat_le least n ≡ true = le-leb least n low in
    let below : nat_le n most ≡ true = le-leb n most high in
    rw (value, same, above, below) refl

-- no other text is a number
pub number_in-none : (least most : ℕ) (text : List ℕ) → ((n : ℕ) → least ≤ n → n ≤ most → text ≡ decimal n → ⊥) → number_in least most text ≡ None
number_in-none least most text never =
    let n = digits_value 10 text in
    cond-false _ _ _ (false_from_ne_true _ (λ all.
    let parts = and_parts (bytes_eq (decimal n) text) (nat_le least n && nat_le n most) all in
    let bounds = and_parts (nat_le least n) (nat_le n most) parts.1 in
    never n (leb-true least n bounds.0) (leb-true n most bounds.1) (sym ((bytes_eq-Decides _ _).0 parts.0))))
