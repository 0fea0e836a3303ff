-- The places of all questions, and what stands at each.
use Rattle.std.proofs.Common.{◌≡◌, ◌∙◌, ◌+◌, ◌*◌, ◌/◌, ◌%◌, ◌<◌, ◌≤◌, ℕ, zero, suc, List, ◌∷◌, ◌++◌, length, map, ap, ap₂, refl, add-one, subst, sym, arith}
use Rattle.std.specs.List.{flat_map, range_with_len}
use Rattle.std.proofs.lemmas.List.{map-append}
use Rattle.std.proofs.lemmas.Simd.{map-map}
use Rattle.std.proofs.lemmas.Nat.{div-mul-add, mod-mul-add}
use Rattle.std.proofs.Math.Nat.{add-mul, div-lt_iff_lt-mul, mul_assoc, suc-mul, zero-mul}
use Rattle.access_report.specs.Answers.{about_at, change_at, place_at}
use Rattle.access_report.specs.Laws.{EachIsAskedOnce, abouts, changes_of, of_repo, of_user}
use Rattle.access_report.specs.Lists.{QuestionLists, per_user}
use Rattle.access_report.specs.declared.answers.About.{About}
use Rattle.access_report.specs.declared.answers.About.TheVariants.{Read, Write}
use Rattle.access_report.specs.declared.answers.Place.{Place}

-- ---- numbers in a row

range_split : (a m n : ℕ) → range_with_len a (m + n) ≡ range_with_len a m ++ range_with_len (a + m) n
range_split a zero n = ap₂ (λ (b k : ℕ). range_with_len b k) (let same : a ≡ a + 0 = omega arith in same) (let same : 0 + n ≡ n = omega arith in same)
range_split a (suc m) n =
    ap (range_with_len a) (let same : suc m + n ≡ suc (m + n) = omega arith in same)
    ∙ ap (λ (l : List ℕ). a ∷ l) (range_split (a + 1) m n ∙ ap (λ (b : ℕ). range_with_len (a + 1) m ++ range_with_len b n) (let same : (a + 1) + m ≡ a + suc m = omega arith in same))

module _ {X : Type 0} where
  shifted : (f : ℕ → X) (a b n : ℕ) → map f (range_with_len (a + b) n) ≡ map (λ k. f (a + k)) (range_with_len b n)
  shifted f a b zero = refl
  shifted f a b (suc n) =
      ap (λ (l : List X). f (a + b) ∷ l) (ap (λ (c : ℕ). map f (range_with_len c n)) (let same : (a + b) + 1 ≡ a + (b + 1) = omega arith in same) ∙ shifted f a (b + 1) n)

  from_zero : (f : ℕ → X) (a n : ℕ) → map f (range_with_len a n) ≡ map (λ k. f (a + k)) (range_with_len 0 n)
  from_zero f a n = ap (λ (c : ℕ). map f (range_with_len c n)) (let same : a ≡ a + 0 = omega arith in same) ∙ shifted f a 0 n

  -- the same of numbers below a bound
  same_below : (f g : ℕ → X) (last a n : ℕ) → a + n ≤ last → ((k : ℕ) → k < last → f k ≡ g k) → map f (range_with_len a n) ≡ map g (range_with_len a n)
  same_below f g last a zero within same = refl
  same_below f g last a (suc n) within same = ap₂ (λ (x : X) (l : List X). x ∷ l) (same a (omega (arith, within))) (same_below f g last (a + 1) n (omega (arith, within)) same)

  same_lists : (f g : ℕ → List X) (last a n : ℕ) → a + n ≤ last → ((k : ℕ) → k < last → f k ≡ g k) → flat_map f (range_with_len a n) ≡ flat_map g (range_with_len a n)
  same_lists f g last a zero within same = refl
  same_lists f g last a (suc n) within same = ap₂ (λ (x l : List X). x ++ l) (same a (omega (arith, within))) (same_lists f g last (a + 1) n (omega (arith, within)) same)

  -- numbers in a row, block by block
  blocks : (f : ℕ → X) (m a n : ℕ) → map f (range_with_len (a * m) (n * m)) ≡ flat_map (λ i. map (λ k. f (i * m + k)) (range_with_len 0 m)) (range_with_len a n)
  blocks f m a zero = ap (λ (k : ℕ). map f (range_with_len (a * m) k)) (zero-mul m)
  blocks f m a (suc n) =
      ap (λ (k : ℕ). map f (range_with_len (a * m) k)) (one_more n m)
      ∙ ap (map f) (range_split (a * m) m (n * m))
      ∙ map-append f (range_with_len (a * m) m) (range_with_len (a * m + m) (n * m))
      ∙ ap₂ (λ (x l : List X). x ++ l) (from_zero f (a * m) m) (ap (λ (k : ℕ). map f (range_with_len k (n * m))) (next_block a m) ∙ blocks f m (a + 1) n)
    where
      one_more : (n m : ℕ) → suc n * m ≡ m + n * m
      one_more n m = omega (arith, suc-mul n m)

      next_block : (a m : ℕ) → a * m + m ≡ (a + 1) * m
      next_block a m = (let same : a * m + m ≡ suc a * m = omega (arith, suc-mul a m) in same) ∙ ap (λ (k : ℕ). k * m) (sym (add-one a))

  all_blocks : (f : ℕ → X) (n m : ℕ) → map f (range_with_len 0 (n * m)) ≡ flat_map (λ i. map (λ k. f (i * m + k)) (range_with_len 0 m)) (range_with_len 0 n)
  all_blocks f n m = ap (λ (k : ℕ). map f (range_with_len k (n * m))) (sym (zero-mul m)) ∙ blocks f m 0 n

-- ---- what is asked of a repository and a user

four_changes : (ref : ℕ) → map (λ k. change_at ((ref * 4 + k) / 4) ((ref * 4 + k) % 4)) (range_with_len 0 4) ≡ changes_of ref
four_changes ref =
    same_below (λ k. change_at ((ref * 4 + k) / 4) ((ref * 4 + k) % 4)) (change_at ref) 4 0 4 (omega arith)
    (λ k less. ap₂ change_at (div-mul-add ref 4 k less) (mod-mul-add ref 4 k less))

abouts_are : (q : QuestionLists) → map about_at (range_with_len 0 (per_user q)) ≡ abouts q
abouts_are q =
    ap (λ (n : ℕ). map about_at (range_with_len 0 n)) (let same : per_user q ≡ suc (suc (length q.refs * 4)) = omega arith in same)
    ∙ ap (λ (l : List About). Read ∷ Write ∷ l)
    (from_zero about_at 2 (length q.refs * 4)
    ∙ same_below (λ k. about_at (2 + k)) (λ k. change_at (k / 4) (k % 4)) (length q.refs * 4) 0 (length q.refs * 4) (omega arith) (λ k less. ap about_at (let same : 2 + k ≡ suc (suc k) = omega arith in same))
    ∙ all_blocks (λ k. change_at (k / 4) (k % 4)) (length q.refs) 4
    ∙ same_lists (λ ref. map (λ k. change_at ((ref * 4 + k) / 4) ((ref * 4 + k) % 4)) (range_with_len 0 4)) changes_of (length q.refs) 0 (length q.refs) (omega arith) (λ ref less. four_changes ref))

-- ---- all places

module _ (q : QuestionLists) where
  abbrev users : ℕ
  users = length q.users

  abbrev per : ℕ
  per = per_user q

  within_repo : (user k : ℕ) → user < users → k < per → user * per + k < users * per
  within_repo user k some less =
      let quotient : (user * per + k) / per < users = subst (λ (n : ℕ). n < users) (sym (div-mul-add user per k less)) some in
      (div-lt_iff_lt-mul (let positive : 0 < per = omega arith in positive)).0 quotient

  regrouped : (repo user k : ℕ) → repo * (users * per) + (user * per + k) ≡ (repo * users + user) * per + k
  regrouped repo user k = omega (arith, mul_assoc repo users per, add-mul (repo * users) user per)

  place_is : (repo user k : ℕ) → user < users → k < per → place_at q (repo * (users * per) + (user * per + k)) ≡ record { repo = repo; user = user; about = about_at k }
  unfolding place_at
  place_is repo user k some less =
      let first : (repo * (users * per) + (user * per + k)) / (users * per) ≡ repo = div-mul-add repo (users * per) (user * per + k) (within_repo user k some less) in
      let second : ((repo * (users * per) + (user * per + k)) / per) % users ≡ user =
      ap (λ (n : ℕ). (n / per) % users) (regrouped repo user k) ∙ ap (λ (n : ℕ). n % users) (div-mul-add (repo * users + user) per k less) ∙ mod-mul-add repo users user some in
      let third : (repo * (users * per) + (user * per + k)) % per ≡ k = ap (λ (n : ℕ). n % per) (regrouped repo user k) ∙ mod-mul-add (repo * users + user) per k less in
      placed first second (ap about_at third)
    where
      placed : {r s u v : ℕ} {a b : About} → r ≡ s → u ≡ v → a ≡ b → (let p : Place = record { repo = r; user = u; about = a } in p) ≡ record { repo = s; user = v; about = b }
      placed e f g = cc

  user_places : (repo user : ℕ) → user < users → map (λ k. place_at q (repo * (users * per) + (user * per + k))) (range_with_len 0 per) ≡ of_user q repo user
  user_places repo user some =
      same_below (λ k. place_at q (repo * (users * per) + (user * per + k))) (λ k. record { repo = repo; user = user; about = about_at k }) per 0 per (omega arith) (λ k less. place_is repo user k some less)
      ∙ sym (map-map (λ (about : About). record { repo = repo; user = user; about = about }) about_at (range_with_len 0 per))
      ∙ ap (map (λ (about : About). record { repo = repo; user = user; about = about })) (abouts_are q)

  repo_places : (repo : ℕ) → map (λ k. place_at q (repo * (users * per) + k)) (range_with_len 0 (users * per)) ≡ of_repo q repo
  repo_places repo =
      all_blocks (λ k. place_at q (repo * (users * per) + k)) users per
      ∙ same_lists (λ user. map (λ k. place_at q (repo * (users * per) + (user * per + k))) (range_with_len 0 per)) (of_user q repo) users 0 users (omega arith) (λ user some. user_places repo user some)

pub each_is_asked_once : EachIsAskedOnce
each_is_asked_once q =
    ap (λ (n : ℕ). map (place_at q) (range_with_len 0 n)) (mul_assoc (length q.repos) (length q.users) (per_user q))
    ∙ all_blocks (place_at q) (length q.repos) (length q.users * per_user q)
    ∙ same_lists (λ repo. map (λ k. place_at q (repo * (length q.users * per_user q) + k)) (range_with_len 0 (length q.users * per_user q))) (of_repo q) (length q.repos) 0 (length q.repos) (omega arith) (λ repo some. repo_places q repo)
