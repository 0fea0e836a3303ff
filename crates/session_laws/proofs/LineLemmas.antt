-- Lines as a client spells them, and what is read of them.
use Rattle.std.proofs.Common.{◌≡◌, ◌≢◌, ℕ, zero, suc, ◌+◌, ◌-◌, ◌<◌, Bool, true, false, not, ◌==◌, if◌then◌else◌, List, [], ◌∷◌, ◌++◌, length, drop, get_or, Some, refl, sym, ◌∙◌, ap, arith, append_assoc, bytes_eq}
use Rattle.std.proofs.lemmas.List.{append-nil, take_at, drop_at, get_or_at, length_push}
use Rattle.std.proofs.lemmas.List.Folds.{list_all-append}
use Rattle.std.proofs.lemmas.List.Sums.{position_or_len_is}
use Rattle.std.proofs.lemmas.Bool.{and_parts, lt-ltb}
use Rattle.std.proofs.lemmas.Bool.Decides.{nat_tests}
use Rattle.std.proofs.lemmas.Grind.{common_steps}
use Rattle.std.proofs.lemmas.Slice.Eq.{bytes_eq-Decides}
use Rattle.std.specs.List.{list_all, slice_split, position_or_len}
use Rattle.git_object.specs.Reader.{up_to}
use Rattle.session_core.specs.FirstPacket.{without_feed}
use Rattle.session_laws.specs.Sending.{Lacks}

-- ---- texts without a byte

-- what passes one test passes another
pub all_pass : (p q : ℕ → Bool) → ((c : ℕ) → p c ≡ true → q c ≡ true) → (text : List ℕ) → list_all p text ≡ true → list_all q text ≡ true
all_pass p q each [] all = refl
all_pass p q each (c ∷ text) all =
    let both = and_parts (p c) (list_all p text) all in
    rw (each c both.0, all_pass p q each text both.1) refl

pub both_pass : (p : ℕ → Bool) (one other : List ℕ) → list_all p one ≡ true → list_all p other ≡ true → list_all p (one ++ other) ≡ true
both_pass p one other a b = list_all-append p one other ∙ rw (a, b) refl

head_differs : (c x : ℕ) (xs : List ℕ) → Lacks c (x ∷ xs) → (x == c) ≡ false
head_differs c x xs lacks = let head = (and_parts (not (x == c)) (list_all (λ b. not (b == c)) xs) lacks).0 in elim (x == c) as (λ b. not b ≡ true → b ≡ false) [ true ↦ λ e. absurd cc | false ↦ λ e. refl ] head

tail_lacks : (c x : ℕ) (xs : List ℕ) → Lacks c (x ∷ xs) → Lacks c xs
tail_lacks c x xs lacks = (and_parts (not (x == c)) (list_all (λ b. not (b == c)) xs) lacks).1

same_test : (c : ℕ) → (c == c) ≡ true
same_test c = grind (arith, nat_tests)

-- ---- cutting

at_lacked : (c : ℕ) (xs ys : List ℕ) → Lacks c xs → (k : ℕ) → k < length xs → (get_or (xs ++ ys) k 0 == c) ≡ false
at_lacked c [] ys lacks k within = absurd (omega (arith, within))
at_lacked c (x ∷ xs) ys lacks zero within = head_differs c x xs lacks
at_lacked c (x ∷ xs) ys lacks (suc k) within = at_lacked c xs ys (tail_lacks c x xs lacks) k (omega (arith, within))

place_at : (c : ℕ) (xs ys : List ℕ) → Lacks c xs → position_or_len (λ x. x == c) (xs ++ c ∷ ys) ≡ length xs
place_at c xs ys lacks =
    position_or_len_is (λ x. x == c) (xs ++ c ∷ ys) (length xs) 0 (grind (arith, common_steps))
    (λ k within. at_lacked c xs (c ∷ ys) lacks k within) (λ _. rw (get_or_at xs c ys 0 (length xs) refl) (same_test c))

behind_at : (c : ℕ) (xs ys : List ℕ) → drop (length xs + 1) (xs ++ c ∷ ys) ≡ ys
behind_at c xs ys = ap (drop (length xs + 1)) (sym (append_assoc xs (c ∷ []) ys)) ∙ drop_at (xs ++ c ∷ []) ys (length xs + 1) (length_push xs c)

pub up_to_at : (c : ℕ) (xs ys : List ℕ) → Lacks c xs → up_to c (xs ++ c ∷ ys) ≡ Some (xs, ys)
unfolding up_to
up_to_at c xs ys lacks =
    rw (place_at c xs ys lacks, lt-ltb (length xs) (length (xs ++ c ∷ ys)) (grind (arith, common_steps)), take_at xs (c ∷ ys) (length xs) refl, behind_at c xs ys) refl

pub split_none : (c : ℕ) (xs : List ℕ) → Lacks c xs → slice_split (λ x. x == c) xs ≡ xs ∷ []
split_none c [] lacks = refl
split_none c (x ∷ xs) lacks = rw (head_differs c x xs lacks, split_none c xs (tail_lacks c x xs lacks)) refl

pub split_at : (c : ℕ) (xs ys : List ℕ) → Lacks c xs → slice_split (λ x. x == c) (xs ++ c ∷ ys) ≡ xs ∷ slice_split (λ x. x == c) ys
split_at c [] ys lacks = rw (same_test c) refl
split_at c (x ∷ xs) ys lacks = rw (head_differs c x xs lacks, split_at c xs ys (tail_lacks c x xs lacks)) refl

-- ---- feeds

no_last : (c n : ℕ) (xs : List ℕ) → Lacks c xs → drop n xs ≢ c ∷ []
no_last c zero [] lacks e = absurd cc
no_last c (suc n) [] lacks e = absurd cc
no_last c zero (x ∷ xs) lacks e = let same : x ≡ c = cc in let not_so = head_differs c x xs lacks in let so : (x == c) ≡ true = rw same (same_test c) in absurd cc
no_last c (suc n) (x ∷ xs) lacks e = no_last c n xs (tail_lacks c x xs lacks) e

not_feed : (xs : List ℕ) → Lacks 10 xs → bytes_eq (drop (length xs - 1) xs) (10 ∷ []) ≡ false
not_feed xs lacks =
    elim (bytes_eq (drop (length xs - 1) xs) (10 ∷ [])) as (λ b. bytes_eq (drop (length xs - 1) xs) (10 ∷ []) ≡ b → b ≡ false) [
      | true ↦ λ e. absurd (no_last 10 (length xs - 1) xs lacks ((bytes_eq-Decides (drop (length xs - 1) xs) (10 ∷ [])).0 e))
      | false ↦ λ e. refl
    ] refl

-- a feed at a line's end says nothing
pub feed_is_nothing : (feed : Bool) (text : List ℕ) → Lacks 10 text → without_feed (text ++ (if feed then 10 ∷ [] else [])) ≡ text
unfolding without_feed
feed_is_nothing true text lacks =
    let last : length (text ++ 10 ∷ []) - 1 ≡ length text = rw (length_push text 10) (omega arith) in
    rw (last, drop_at text (10 ∷ []) (length text) refl, take_at text (10 ∷ []) (length text) refl) refl
feed_is_nothing false text lacks = rw (append-nil text, not_feed text lacks) refl
