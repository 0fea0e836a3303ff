-- What a user's name has, and what no part of it is.
use Rattle.std.proofs.Common.{◌≡◌, ◌≤◌, ◌==◌, ℕ, List, [], ◌∷◌, length, Bool, true, false, refl, sym, ap, ◌∙◌, arith}
use Rattle.std.specs.Prelude.{codes, not, ◌&&◌, nat_le}
use Rattle.std.specs.List.{list_all}
use Rattle.std.specs.Str.{bytes_eq}
use Rattle.std.proofs.lemmas.Bool.{ne_eqb}
use Rattle.std.proofs.lemmas.Bool.Decides.{nat_tests}
use Rattle.conf_lex.specs.Cleaning.{is_white}
use Rattle.conf_lex.specs.Names.{begins_with_letter_or_digit, is_name_byte, is_role, is_user_name}
use Rattle.conf_lex.specs.Words.{begins_with_at}
use Rattle.conf_lex.proofs.CleanLemmas.{has_mark}
use Rattle.conf_lex.proofs.WordLemmas.{IsFree}

-- the bytes of a name
abbrev IsByte : ℕ → Type 0
IsByte b = is_name_byte (codes "-._@+") b ≡ true

abbrev AreBytes : List ℕ → Type 0
AreBytes name = list_all (is_name_byte (codes "-._@+")) name ≡ true

both_true : (a b : Bool) → (a && b) ≡ true → (a ≡ true) × (b ≡ true)
both_true true true e = (refl, refl)
both_true true false e = absurd cc
both_true false b e = absurd cc

-- a byte that no name has isn't one of its bytes
is_other : (c b : ℕ) → is_name_byte (codes "-._@+") c ≡ false → IsByte b → (b == c) ≡ false
is_other c b none some = ne_eqb b c (λ e. let bad : true ≡ false = sym some ∙ ap (is_name_byte (codes "-._@+")) e ∙ none in absurd cc)

no_white : (b : ℕ) → IsByte b → is_white b ≡ false
no_white b some = rw (is_other 32 b refl some, is_other 9 b refl some, is_other 13 b refl some) refl

free_by : (test : ℕ → Bool) → ((b : ℕ) → IsByte b → test b ≡ false) → (name : List ℕ) → AreBytes name → IsFree test name
free_by test none [] e = tt
free_by test none (b ∷ bs) e =
    let both = both_true (is_name_byte (codes "-._@+") b) (list_all (is_name_byte (codes "-._@+")) bs) e in
    (none b both.0, free_by test none bs both.1)

unmarked : (name : List ℕ) → AreBytes name → has_mark false name ≡ false
unmarked [] e = refl
unmarked (b ∷ bs) e =
    let both = both_true (is_name_byte (codes "-._@+") b) (list_all (is_name_byte (codes "-._@+")) bs) e in
    rw (is_other 35 b refl both.0, is_other 34 b refl both.0) (unmarked bs both.1)

-- a word that begins with a letter or a digit begins with no `@`
no_at : (name : List ℕ) → begins_with_letter_or_digit name ≡ true → begins_with_at name ≡ false
no_at [] e = refl
no_at (b ∷ bs) e = ne_eqb b 64 (λ same. let bad : true ≡ false = sym e ∙ ap (λ n. begins_with_letter_or_digit (n ∷ bs)) same in absurd cc)

-- nor is it `@all`
no_all : (name : List ℕ) → begins_with_at name ≡ false → bytes_eq name (codes "@all") ≡ false
no_all [] e = refl
no_all (b ∷ bs) e = rw e refl

-- the first four of the five rules
parts : (a b c d e : Bool) → (a && b && c && d && e) ≡ true → (a ≡ true) × (b ≡ true) × (c ≡ true) × (d ≡ true)
parts true true true true e h = (refl, refl, refl, refl)
parts true true true false e h = absurd cc
parts true true false d e h = absurd cc
parts true false c d e h = absurd cc
parts false b c d e h = absurd cc

-- What a conf's line asks of a user's name.
pub record IsPlain (name : List ℕ) : Type 0 where
  pub some : (length name == 0) ≡ false
  pub short : length name ≤ 64
  pub one_line : IsFree (λ b. b == 10) name
  pub one_word : IsFree is_white name
  pub no_mark : has_mark false name ≡ false
  pub no_at : begins_with_at name ≡ false
  pub no_all : bytes_eq name (codes "@all") ≡ false

pub name_is_plain : (name : List ℕ) → is_user_name name ≡ true → IsPlain name
name_is_plain name e =
    let of = parts (nat_le 1 (length name)) (nat_le (length name) 64) (begins_with_letter_or_digit name) (list_all (is_name_byte (codes "-._@+")) name) (not (is_role name)) e in
    record {
      some = some_of (length name) of.0;
      short = short_of (length name) of.1;
      one_line = free_by (λ b. b == 10) (λ b some. is_other 10 b refl some) name of.3;
      one_word = free_by is_white no_white name of.3;
      no_mark = unmarked name of.3;
      no_at = no_at name of.2;
      no_all = no_all name (no_at name of.2);
    }
  where
    some_of : (n : ℕ) → nat_le 1 n ≡ true → (n == 0) ≡ false
    some_of n e = grind (arith, nat_tests)

    short_of : (n : ℕ) → nat_le n 64 ≡ true → n ≤ 64
    short_of n e = grind (arith, nat_tests)
