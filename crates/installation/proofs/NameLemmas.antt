-- A letter and a number are a repository's name.
use Rattle.std.proofs.Common.{◌≡◌, ℕ, zero, suc, ◌+◌, ◌-◌, ◌≤◌, ◌<◌, ◌^◌, ◌%◌, List, [], ◌∷◌, ◌++◌, length, drop, true, false, refl, ◌∙◌, arith, nat_le, nat_eq, lit<}
use Rattle.std.specs.Prelude.{codes, decimal, ◌==◌, Option, Some, None, if◌then◌else◌}
use Rattle.std.specs.List.{AllByRecursion, list_all, slice_split}
use lib.Pointwise.{pointwise}
use Rattle.std.proofs.lemmas.Fmt.{decimal_by_steps, length-decimal-le}
use Rattle.std.proofs.lemmas.Bool.Decides.{nat_tests}
use Rattle.conf_lex.specs.Names.{is_repo_name, is_name_byte, occurs}
use Rattle.installation.specs.Conf.{repo_name}

abbrev IsDigit : ℕ → Type 0
IsDigit c = (48 ≤ c) × (c ≤ 57)

digits_more : (ds : List ℕ) (c : ℕ) → AllByRecursion IsDigit ds → IsDigit c → AllByRecursion IsDigit (ds ++ c ∷ [])
digits_more [] c all digit = (digit, tt)
digits_more (d ∷ ds) c all digit = (all.0, digits_more ds c all.1 digit)

digits : (n : ℕ) → n < 2 ^ 64 → AllByRecursion IsDigit (decimal n)
digits = decimal_by_steps (λ n ds. AllByRecursion IsDigit ds)
    (λ n small. ((omega arith, omega arith), tt))
    (λ n ds large all. digits_more ds (48 + n % 10) all (omega arith, omega arith))

name_byte : (others : List ℕ) (c : ℕ) → IsDigit c → is_name_byte others c ≡ true
name_byte others c digit = let low : nat_le 48 c ≡ true = grind (arith, nat_tests) in let high : nat_le c 57 ≡ true = grind (arith, nat_tests) in rw (low, high) refl

name_bytes : (others ds : List ℕ) → AllByRecursion IsDigit ds → list_all (is_name_byte others) ds ≡ true
name_bytes others [] all = refl
name_bytes others (c ∷ ds) all = rw (name_byte others c all.0) (name_bytes others ds all.1)

-- no digit begins a word that begins with another byte
abbrev Differs : ℕ → ℕ → Type 0
Differs b c = nat_eq b c ≡ false

occurs_not : (b : ℕ) (more ds : List ℕ) → AllByRecursion (Differs b) ds → occurs (b ∷ more) ds ≡ false
occurs_not b more [] all = refl
occurs_not b more (c ∷ ds) all = rw (all.0) (occurs_not b more ds all.1)

ends_not : (b : ℕ) (more : List ℕ) (k : ℕ) (ds : List ℕ) → AllByRecursion (Differs b) ds → pointwise nat_eq (b ∷ more) (drop k ds) ≡ false
ends_not b more zero [] all = refl
ends_not b more zero (c ∷ ds) all = rw (all.0) refl
ends_not b more (suc k) [] all = refl
ends_not b more (suc k) (c ∷ ds) all = ends_not b more k ds all.1

-- a letter that is none of these bytes, and digits
differs_all : (b : ℕ) → ((c : ℕ) → IsDigit c → Differs b c) → (ds : List ℕ) → AllByRecursion IsDigit ds → AllByRecursion (Differs b) ds
differs_all b apart [] all = tt
differs_all b apart (c ∷ ds) all = (apart c all.0, differs_all b apart ds all.1)

one_piece : (xs : List ℕ) → AllByRecursion (λ c. (c == 47) ≡ false) xs → slice_split (λ c. c == 47) xs ≡ xs ∷ []
one_piece [] all = refl
one_piece (c ∷ xs) all = rw (all.0, one_piece xs all.1) refl

no_slash : (ds : List ℕ) → AllByRecursion IsDigit ds → AllByRecursion (λ c. (c == 47) ≡ false) ds
no_slash [] all = tt
no_slash (c ∷ ds) all = (let digit : IsDigit c = all.0 in grind (arith, nat_tests), no_slash ds all.1)

is_name : (n : ℕ) → n < 2 ^ 32 → is_repo_name (repo_name n) ≡ true
is_name n small =
    let ds = decimal n in
    let all = digits n (omega arith) in
    let dot = differs_all 46 (λ c d. let h : nat_eq 46 c ≡ false = grind (arith, nat_tests) in h) ds all in
    let letter = differs_all 67 (λ c d. let h : nat_eq 67 c ≡ false = grind (arith, nat_tests) in h) ds all in
    let short = length-decimal-le 10 n (lit< tt) (omega arith) (omega arith) in
    let some : nat_le 1 (length (114 ∷ ds)) ≡ true = grind (arith, nat_tests) in
    let few : nat_le (length (114 ∷ ds)) 200 ≡ true = grind (arith, nat_tests) in
    let one : slice_split (λ c. c == 47) (114 ∷ ds) ≡ (114 ∷ ds) ∷ [] = one_piece (114 ∷ ds) (refl, no_slash ds all) in
    let full : (length (114 ∷ ds) == 0) ≡ false = grind (arith, nat_tests) in
    let dots : occurs (codes "..") ds ≡ false = occurs_not 46 (codes ".") ds dot in
    let word : occurs (codes "CREATOR") ds ≡ false = occurs_not 67 (codes "REATOR") ds letter in
    let ending : pointwise nat_eq (codes ".git") (drop (length (114 ∷ ds) - 4) (114 ∷ ds)) ≡ false = ends_not 46 (codes "git") (length (114 ∷ ds) - 4) (114 ∷ ds) (refl, dot) in
    rw (some, few, name_bytes (codes "-._@/+") ds all, one, full, dots, word, ending) refl

-- so it is parsed as one
pub is_parsed : (n : ℕ) (bytes lent : List ℕ) (found : Option (List ℕ)) → n < 2 ^ 32 → bytes ≡ repo_name n → lent ≡ bytes → found ≡ (if is_repo_name lent then Some lent else None) → found ≡ Some (repo_name n)
is_parsed n bytes lent found small bytes_is lent_is found_is = found_is ∙ rw (lent_is, bytes_is, is_name n small) refl
