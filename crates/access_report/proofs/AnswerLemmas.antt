-- What stands at a place, and that it is answered.
use Rattle.std.proofs.Common.{◌≡◌, ◌-◌, ◌*◌, ◌/◌, ◌%◌, ◌<◌, ℕ, zero, suc, Bool, true, false, List, [], ◌∷◌, length, Option, Some, None, ap, refl, subst, arith}
use Rattle.std.specs.Prelude.{IsTrue, is_some, nat_lt, slice_get, if◌then◌else◌}
use Rattle.std.specs.Option.{option_map}
use Rattle.std.proofs.lemmas.Bool.Decides.{nat_tests}
use Rattle.std.proofs.Math.Nat.{div-lt_iff_lt-mul, mod-lt, mul_assoc, mul-zero, suc-mul, zero-mul}
use Rattle.rule_compile.specs.Flat.{Flat}
use Rattle.rule_compile.specs.Patterns.{Patterns}
use Rattle.access_report.specs.Answers.{about_at, answered, asked_of, change_at, place_at, question_at, question_of}
use Rattle.access_report.specs.Laws.{EachIsAnswered}
use Rattle.access_report.specs.Lists.{QuestionLists, count, per_user}
use Rattle.access_report.specs.declared.answers.Place.{Place}
use Rattle.access_report.specs.declared.lists.AskedRepo.{AskedRepo}

-- ---- numbers

some_product : (a b : ℕ) → 0 < a * b → (0 < a) × (0 < b)
some_product zero b some = absurd (omega (arith, some, zero-mul b))
some_product (suc a) zero some = absurd (omega (arith, some, mul-zero (suc a)))
some_product (suc a) (suc b) some = (omega arith, omega arith)

-- some question is asked of some repository and user
pub some_asked : (q : QuestionLists) (at : ℕ) → at < count q → (0 < length q.repos) × (0 < length q.users) × (0 < length q.users * per_user q)
some_asked q at less =
    let product = some_product (length q.repos * length q.users) (per_user q) (omega (arith, less)) in
    let lists = some_product (length q.repos) (length q.users) product.0 in
    (lists.0, lists.1, more (length q.users) (per_user q) lists.1 product.1)
  where
    more : (a b : ℕ) → 0 < a → 0 < b → 0 < a * b
    more zero b some other = absurd (omega arith)
    more (suc a) zero some other = absurd (omega arith)
    more (suc a) (suc b) some other = omega (arith, suc-mul a (suc b))

pub about_behind : (at : ℕ) → ¬ (at ≡ 0) → ¬ (at ≡ 1) → about_at at ≡ change_at ((at - 2) / 4) ((at - 2) % 4)
about_behind zero other more = absurd (other refl)
about_behind (suc zero) other more = absurd (more refl)
about_behind (suc (suc n)) other more = ap (λ (k : ℕ). change_at (k / 4) (k % 4)) (let same : n ≡ suc (suc n) - 2 = omega arith in same)

pub change_behind : (ref at : ℕ) → ¬ (at ≡ 0) → ¬ (at ≡ 1) → ¬ (at ≡ 2) → change_at ref at ≡ change_at ref 3
change_behind ref zero a b c = absurd (a refl)
change_behind ref (suc zero) a b c = absurd (b refl)
change_behind ref (suc (suc zero)) a b c = absurd (c refl)
change_behind ref (suc (suc (suc n))) a b c = refl

-- ---- each place has an answer

some_at : {X : Type 0} (xs : List X) (i : ℕ) → i < length xs → IsTrue (is_some (slice_get xs i))
some_at [] i less = absurd (omega arith)
some_at (x ∷ xs) zero less = refl
some_at (x ∷ xs) (suc i) less = some_at xs i (omega (arith, less))

some_mapped : {X Y : Type 0} (f : X → Y) (o : Option X) → IsTrue (is_some o) → IsTrue (is_some (option_map f o))
some_mapped f None is = is
some_mapped f (Some x) is = refl

some_chosen : {X : Type 0} (b : Bool) (o : Option X) → b ≡ true → IsTrue (is_some o) → IsTrue (is_some (if b then o else None))
some_chosen true o is some = some
some_chosen false o is some = is

module _ (ps : Patterns) (flat : Flat) (q : QuestionLists) where
  some_change : (repo : AskedRepo) (user : List ℕ) (ref at : ℕ) → ref < length q.refs → IsTrue (is_some (answered ps flat q repo user (change_at ref at)))
  some_change repo user ref zero less = some_mapped _ (slice_get q.refs ref) (some_at q.refs ref less)
  some_change repo user ref (suc zero) less = some_mapped _ (slice_get q.refs ref) (some_at q.refs ref less)
  some_change repo user ref (suc (suc zero)) less = some_mapped _ (slice_get q.refs ref) (some_at q.refs ref less)
  some_change repo user ref (suc (suc (suc n))) less = some_mapped _ (slice_get q.refs ref) (some_at q.refs ref less)

  some_answer : (repo : AskedRepo) (user : List ℕ) (at : ℕ) → at < per_user q → IsTrue (is_some (answered ps flat q repo user (about_at at)))
  some_answer repo user zero less = refl
  some_answer repo user (suc zero) less = refl
  some_answer repo user (suc (suc n)) less = some_change repo user (n / 4) (n % 4) (omega (arith, less))

  some_question : (place : Place) (repo : Option AskedRepo) (user : Option (List ℕ)) → IsTrue (is_some repo) → IsTrue (is_some user)
      → ((r : AskedRepo) (u : List ℕ) → IsTrue (is_some (answered ps flat q r u place.about))) → IsTrue (is_some (asked_of ps flat q place repo user))
  some_question place (Some repo) (Some user) is-repo is-user some = some_mapped _ (answered ps flat q repo user place.about) (some repo user)
  some_question place (Some repo) None is-repo is-user some = is-user
  some_question place None user is-repo is-user some = is-repo

pub each_is_answered : EachIsAnswered
unfolding question_at place_at
each_is_answered ps flat q at less =
    let some = some_asked q at less in
    let all : at < length q.repos * (length q.users * per_user q) = subst (λ (n : ℕ). at < n) (mul_assoc (length q.repos) (length q.users) (per_user q)) less in
    some_chosen (nat_lt at (count q)) (question_of ps flat q (place_at q at)) (grind (arith, nat_tests, less))
    (some_question ps flat q (place_at q at) (slice_get q.repos (at / (length q.users * per_user q))) (slice_get q.users (at / per_user q % length q.users))
    (some_at q.repos (at / (length q.users * per_user q)) ((div-lt_iff_lt-mul some.2).1 all))
    (some_at q.users (at / per_user q % length q.users) (mod-lt (at / per_user q) some.1))
    (λ repo user. some_answer ps flat q repo user (at % per_user q) (mod-lt at (omega arith))))
