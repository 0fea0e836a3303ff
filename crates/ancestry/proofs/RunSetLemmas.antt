-- Places taken one run after another.
use Rattle.std.proofs.Common.{◌≡◌, ℕ, ◌+◌, ◌<◌, ◌≤◌, ◌⊎◌, inl, inr, Bool, true, false, ◌&&◌, ◌||◌, nat_le, nat_lt, List, [], ◌∷◌, ◌++◌, length, take, get_or, Contains, refl, sym, ◌∙◌, ap, subst, arith, true≢false, length-append}
use Rattle.std.specs.List.Sorted.{IsNonDecreasing, IsStrictlyIncreasing}
use Rattle.std.proofs.lemmas.Bool.{cases_lt}
use Rattle.std.proofs.lemmas.Bool.Decides.{nat_tests}
use Rattle.std.proofs.lemmas.List.{take_more, length-take, get_or-take, get_or_default}
use Rattle.std.proofs.lemmas.Grind.{common_steps}
use Rattle.std.proofs.lemmas.List.Elements.{Contains-get_or, Contains-push, Contains-append_left, Contains-push_cases}
use Rattle.ancestry.proofs.ListLemmas.{contains_none}
use Rattle.ancestry.proofs.RunLemmas.{not_true}
use Rattle.ancestry.specs.declared.runs.Run.{Run}
use Rattle.ancestry.specs.Runs.{HasNoneFrom, IsFirstFrom, IsPast, is_in}

pub less_is : (a b : ℕ) → a < b → nat_lt a b ≡ true
less_is a b less = grind (arith, nat_tests, less)

pub less_not : (a b : ℕ) → b ≤ a → nat_lt a b ≡ false
less_not a b le = grind (arith, nat_tests, le)

pub least_is : (a b : ℕ) → a ≤ b → nat_le a b ≡ true
least_is a b le = grind (arith, nat_tests, le)

pub least_not : (a b : ℕ) → b < a → nat_le a b ≡ false
least_not a b less = grind (arith, nat_tests, less)

and_false : (b : Bool) → (b && false) ≡ false
and_false true = refl
and_false false = refl

or_false : (b : Bool) → (b || false) ≡ b
or_false true = refl
or_false false = refl

-- ---- all such places below one

module _ (f : ℕ → Bool) where
  abbrev pub Taken : (ℕ → Bool) → ℕ → Type 0
  Taken g at = (place : ℕ) → g place ≡ (nat_lt place at && f place)

  pub taken_none : Taken (is_in []) 0
  taken_none place = sym (ap (λ (b : Bool). b && f place) (less_not place 0 (omega arith)))

  pub taken_none_from : (g : ℕ → Bool) (at from : ℕ) → Taken g at → at ≤ from → HasNoneFrom g from
  taken_none_from g at from taken le place behind = taken place ∙ ap (λ (b : Bool). b && f place) (less_not place at (omega (arith, le, behind)))

  pub past_first : (at from to : ℕ) → IsFirstFrom f at from → IsPast f from to → from < to
  past_first at from to first past = elim (cases_lt from to) [
    | inl less ↦ less
    | inr le ↦ absurd (true≢false (sym first.is ∙ past.none (omega (arith, le, past.from))))
  ]

  pub taken_more : (g more : ℕ → Bool) (at from to : ℕ) → Taken g at → IsFirstFrom f at from → IsPast f from to → ((place : ℕ) → more place ≡ (g place || (nat_le from place && nat_lt place to))) → Taken more to
  taken_more g more at from to taken first past is place = is place ∙ by_cases (cases_lt place at) (cases_lt place from) (cases_lt place to)
    where
      side : Bool
      side = g place || (nat_le from place && nat_lt place to)

      side_is : (a b c : Bool) → g place ≡ a → nat_le from place ≡ b → nat_lt place to ≡ c → side ≡ (a || (b && c))
      side_is a b c p q r = ap (λ (x : Bool). x || (nat_le from place && nat_lt place to)) p ∙ ap (λ (x : Bool). a || (x && nat_lt place to)) q ∙ ap (λ (x : Bool). a || (b && x)) r

      goal_is : (a b : Bool) → nat_lt place to ≡ a → f place ≡ b → (nat_lt place to && f place) ≡ (a && b)
      goal_is a b p q = ap (λ (x : Bool). x && f place) p ∙ ap (λ (x : Bool). a && x) q

      was : (b c : Bool) → nat_lt place at ≡ b → f place ≡ c → g place ≡ (b && c)
      was b c p q = taken place ∙ ap (λ (x : Bool). x && f place) p ∙ ap (λ (x : Bool). b && x) q

      by_cases : (place < at) ⊎ (at ≤ place) → (place < from) ⊎ (from ≤ place) → (place < to) ⊎ (to ≤ place) → side ≡ (nat_lt place to && f place)
      by_cases (inl before) _ _ =
          ap (λ (x : Bool). g place || (x && nat_lt place to)) (least_not from place (omega (arith, before, first.from)))
          ∙ or_false (g place)
          ∙ taken place
          ∙ ap (λ (x : Bool). x && f place) (less_is place at before ∙ sym (less_is place to (omega (arith, before, first.from, past.from))))
      by_cases (inr after) (inl early) _ =
          let isnt : f place ≡ false = first.none place after early in
          side_is false false (nat_lt place to) (was false false (less_not place at after) isnt) (least_not from place early) refl ∙ sym (ap (λ (x : Bool). nat_lt place to && x) isnt ∙ and_false (nat_lt place to))
      by_cases (inr after) (inr late) (inl inside) =
          let has : f place ≡ true = past.all place late inside in
          side_is false true true (was false true (less_not place at after) has) (least_is from place late) (less_is place to inside) ∙ sym (goal_is true true (less_is place to inside) has)
      by_cases (inr after) (inr late) (inr behind) =
          side_is false true false (taken place ∙ ap (λ (x : Bool). x && f place) (less_not place at after)) (least_is from place late) (less_not place to behind)
          ∙ sym (ap (λ (x : Bool). x && f place) (less_not place to behind))

  pub taken_all : (g : ℕ → Bool) (at : ℕ) → Taken g at → HasNoneFrom f at → (place : ℕ) → g place ≡ f place
  taken_all g at taken none place = taken place ∙ by_cases (cases_lt place at)
    where
      by_cases : (place < at) ⊎ (at ≤ place) → (nat_lt place at && f place) ≡ f place
      by_cases (inl before) = ap (λ (b : Bool). b && f place) (less_is place at before)
      by_cases (inr after) = ap (λ (b : Bool). nat_lt place at && b) (none place after) ∙ and_false (nat_lt place at) ∙ sym (none place after)

-- ---- of two

pub first_of_two : (f g : ℕ → Bool) (at place beside : ℕ) → IsFirstFrom f at place → IsFirstFrom g at beside → place ≤ beside → IsFirstFrom (λ p. f p || g p) at place
first_of_two f g at place beside first other le = record {
  from = first.from;
  is = ap (λ (b : Bool). b || g place) first.is;
  none = λ p from less. ap (λ (b : Bool). b || g p) (first.none p from less) ∙ other.none p from (omega (arith, less, le));
}

or_true : (b : Bool) → (b || true) ≡ true
or_true true = refl
or_true false = refl

pub first_of_other : (f g : ℕ → Bool) (at place beside : ℕ) → IsFirstFrom f at place → IsFirstFrom g at beside → beside ≤ place → IsFirstFrom (λ p. f p || g p) at beside
first_of_other f g at place beside first other le = record {
  from = other.from;
  is = ap (λ (b : Bool). f beside || b) other.is ∙ or_true (f beside);
  none = λ p from less. ap (λ (b : Bool). b || g p) (first.none p from (omega (arith, less, le))) ∙ other.none p from less;
}

pub first_alone : (f g : ℕ → Bool) (at place : ℕ) → IsFirstFrom f at place → HasNoneFrom g at → IsFirstFrom (λ p. f p || g p) at place
first_alone f g at place first none = record {
  from = first.from;
  is = ap (λ (b : Bool). b || g place) first.is;
  none = λ p from less. ap (λ (b : Bool). b || g p) (first.none p from less) ∙ none p from;
}

pub other_alone : (f g : ℕ → Bool) (at beside : ℕ) → HasNoneFrom f at → IsFirstFrom g at beside → IsFirstFrom (λ p. f p || g p) at beside
other_alone f g at beside none other = record {
  from = other.from;
  is = ap (λ (b : Bool). f beside || b) other.is ∙ or_true (f beside);
  none = λ p from less. ap (λ (b : Bool). b || g p) (none p from) ∙ other.none p from less;
}

pub past_of_two : (f g : ℕ → Bool) (at past beside : ℕ) → IsPast f at past → IsPast g at beside → (more : ℕ) → ((more ≡ past) × (beside ≤ past)) ⊎ ((more ≡ beside) × (past ≤ beside)) → IsPast (λ p. f p || g p) at more
past_of_two f g at past beside one other more (inl is) = record {
  from = omega (arith, one.from, is.0);
  all = λ p from less. ap (λ (b : Bool). b || g p) (one.all p from (omega (arith, less, is.0)));
  none = λ same. ap (λ (b : Bool). b || g at) (one.none (omega (arith, same, is.0))) ∙ other.none (omega (arith, same, is.0, is.1, other.from));
}
past_of_two f g at past beside one other more (inr is) = record {
  from = omega (arith, other.from, is.0);
  all = λ p from less. ap (λ (b : Bool). f p || b) (other.all p from (omega (arith, less, is.0))) ∙ or_true (f p);
  none = λ same. ap (λ (b : Bool). b || g at) (one.none (omega (arith, same, is.0, is.1, one.from))) ∙ other.none (omega (arith, same, is.0));
}

-- ---- of one and not of another

increasing_push : (ps : List ℕ) (i : ℕ) → IsStrictlyIncreasing ps → ((p : ℕ) → Contains ps p → p < i) → IsStrictlyIncreasing (ps ++ i ∷ [])
increasing_push ps i up below = λ k less. by_place k (cases_lt (k + 1) (length ps)) (omega (arith, less, length-append ps (i ∷ [])))
  where
    by_place : (k : ℕ) → (k + 1 < length ps) ⊎ (length ps ≤ k + 1) → k + 1 ≤ length ps → get_or (ps ++ i ∷ []) k 0 < get_or (ps ++ i ∷ []) (k + 1) 0
    by_place k (inl inside) le = grind (arith, common_steps, up k inside)
    by_place k (inr last) le = let less : get_or ps k 0 < i = below (get_or ps k 0) (Contains-get_or ps k 0 (omega (arith, last, le))) in grind (arith, common_steps, less)

module _ (f g : ℕ → Bool) where
  pub record Listed (places : List ℕ) (at : ℕ) : Type 0 where
    pub order : IsStrictlyIncreasing places
    pub all : (p : ℕ) → f p ≡ true → g p ≡ false → p < at → Contains places p
    pub only : (p : ℕ) → Contains places p → (p < at) × (f p ≡ true) × (g p ≡ false)

  pub listed_none : Listed [] 0
  listed_none = record { order = λ k less. absurd (omega (arith, less)); all = λ p is isnt less. absurd (omega (arith, less)); only = λ p c. absurd (contains_none p c) }

  pub listed_past : (places : List ℕ) (at place past : ℕ) → Listed places at → IsFirstFrom f at place → IsPast g place past → Listed places past
  listed_past places at place past listed first over = record {
    order = listed.order;
    all = λ p is isnt less. by_place p is isnt (cases_lt p at) (cases_lt p place) less;
    only = λ p c. let was = listed.only p c in (omega (arith, was.0, first.from, over.from), was.1, was.2);
  }
    where
      by_place : (p : ℕ) → f p ≡ true → g p ≡ false → (p < at) ⊎ (at ≤ p) → (p < place) ⊎ (place ≤ p) → p < past → Contains places p
      by_place p is isnt (inl before) _ less = listed.all p is isnt before
      by_place p is isnt (inr after) (inl early) less = absurd (true≢false (sym is ∙ first.none p after early))
      by_place p is isnt (inr after) (inr late) less = absurd (true≢false (sym (over.all p late less) ∙ isnt))

  pub listed_one : (places more : List ℕ) (at place : ℕ) → Listed places at → IsFirstFrom f at place → g place ≡ false → more ≡ places ++ place ∷ [] → Listed more (place + 1)
  listed_one places more at place listed first isnt push =
      subst (λ (ps : List ℕ). Listed ps (place + 1)) (sym push)
      (record {
        order = increasing_push places place listed.order (λ p c. omega (arith, (listed.only p c).0, first.from));
        all = λ p has hasnt less. by_place p has hasnt (cases_lt p at) (cases_lt p place) less;
        only = λ p c. by_cases p (Contains-push_cases places place p c);
      })
    where
      by_place : (p : ℕ) → f p ≡ true → g p ≡ false → (p < at) ⊎ (at ≤ p) → (p < place) ⊎ (place ≤ p) → p < place + 1 → Contains (places ++ place ∷ []) p
      by_place p has hasnt (inl before) _ less = Contains-append_left places (place ∷ []) p (listed.all p has hasnt before)
      by_place p has hasnt (inr after) (inl early) less = absurd (true≢false (sym has ∙ first.none p after early))
      by_place p has hasnt (inr after) (inr late) less = let same : place ≡ p = omega (arith, late, less) in subst (λ (q : ℕ). Contains (places ++ place ∷ []) q) same (Contains-push places place)

      by_cases : (p : ℕ) → Contains places p ⊎ (place ≡ p) → (p < place + 1) × (f p ≡ true) × (g p ≡ false)
      by_cases p (inl was) = let before = listed.only p was in (omega (arith, before.0, first.from), before.1, before.2)
      by_cases p (inr same) = (omega (arith, same), subst (λ (q : ℕ). f q ≡ true) same first.is, subst (λ (q : ℕ). g q ≡ false) same isnt)

  pub listed_all : (places : List ℕ) (at : ℕ) → Listed places at → HasNoneFrom f at → (p : ℕ) → (Contains places p → (f p ≡ true) × (g p ≡ false)) × ((f p ≡ true) × (g p ≡ false) → Contains places p)
  listed_all places at listed none p = (
    λ c. let was = listed.only p c in (was.1, was.2),
    λ is. elim (cases_lt p at) [ inl before ↦ listed.all p is.0 is.1 before | inr after ↦ absurd (true≢false (sym is.0 ∙ none p after)) ],
  )

-- ---- places that ascend

abbrev pub AreRead : List Run → List ℕ → ℕ → Type 0
AreRead runs places n = (place : ℕ) → (is_in runs place ≡ true → Contains (take n places) place) × (Contains (take n places) place → is_in runs place ≡ true)

pub read_none : (places : List ℕ) → AreRead [] places 0
read_none places place = (λ has. absurd (true≢false (sym has)), λ c. absurd (contains_none place c))

pub read_again : (runs : List Run) (places : List ℕ) (n : ℕ) → AreRead runs places n → n < length places → is_in runs (get_or places n 0) ≡ true → AreRead runs places (n + 1)
read_again runs places n read below has place = (
  λ is. subst (λ (ps : List ℕ). Contains ps place) (sym (take_more places n 0 below)) (Contains-append_left (take n places) (get_or places n 0 ∷ []) place ((read place).0 is)),
  λ c. elim (Contains-push_cases (take n places) (get_or places n 0) place (subst (λ (ps : List ℕ). Contains ps place) (take_more places n 0 below) c)) [
    | inl before ↦ (read place).1 before
    | inr same ↦ subst (λ (p : ℕ). is_in runs p ≡ true) same has
  ],
)

pub read_one : (runs more : List Run) (places : List ℕ) (n : ℕ) → AreRead runs places n → n < length places
    → ((place : ℕ) → is_in more place ≡ (is_in runs place || (nat_le (get_or places n 0) place && nat_lt place (get_or places n 0 + 1)))) → AreRead more places (n + 1)
read_one runs more places n read below is place = (
  λ has. subst (λ (ps : List ℕ). Contains ps place) (sym (take_more places n 0 below)) (there (cases_lt place one) (cases_lt one place) (sym (is place) ∙ has)),
  λ c. is place ∙ elim (Contains-push_cases (take n places) one place (subst (λ (ps : List ℕ). Contains ps place) (take_more places n 0 below) c)) [
    | inl before ↦ ap (λ (b : Bool). b || (nat_le one place && nat_lt place (one + 1))) ((read place).1 before)
    | inr same ↦ ap (λ (b : Bool). is_in runs place || b) (ap (λ (b : Bool). b && nat_lt place (one + 1)) (least_is one place (omega (arith, same))) ∙ less_is place (one + 1) (omega (arith, same))) ∙ or_true (is_in runs place)
  ],
)
  where
    one : ℕ
    one = get_or places n 0

    there : (place < one) ⊎ (one ≤ place) → (one < place) ⊎ (place ≤ one) → (is_in runs place || (nat_le one place && nat_lt place (one + 1))) ≡ true → Contains (take n places ++ one ∷ []) place
    there (inl before) _ has =
        Contains-append_left (take n places) (one ∷ []) place
        ((read place).0 (sym (ap (λ (b : Bool). is_in runs place || (b && nat_lt place (one + 1))) (least_not one place before) ∙ or_false (is_in runs place)) ∙ has))
    there (inr from) (inl past) has =
        Contains-append_left (take n places) (one ∷ []) place
        ((read place).0 (sym (ap (λ (b : Bool). is_in runs place || (nat_le one place && b)) (less_not place (one + 1) (omega (arith, past))) ∙ ap (λ (b : Bool). is_in runs place || b) (and_false (nat_le one place)) ∙ or_false (is_in runs place)) ∙ has))
    there (inr from) (inr le) has = let same : one ≡ place = omega (arith, from, le) in subst (λ (p : ℕ). Contains (take n places ++ one ∷ []) p) same (Contains-push (take n places) one)

-- the next is behind all that were read, or one of them
pub read_before : (runs : List Run) (places : List ℕ) (n : ℕ) → AreRead runs places n → IsNonDecreasing places → n < length places → is_in runs (get_or places n 0) ≡ false → HasNoneFrom (is_in runs) (get_or places n 0)
read_before runs places n read ascend below isnt place from = not_true (is_in runs place) (λ has.
    let found = (read place).0 has in
    let early : found.0 < n = omega (arith, found.1, length-take n places) in
    let is : get_or places found.0 place ≡ place = sym (get_or-take n places found.0 place early) ∙ found.2 in
    let le : get_or places found.0 place ≤ get_or places n place = ascend found.0 n place (omega (arith, early)) below in
    let here : get_or places n place ≡ get_or places n 0 = get_or_default places n place 0 below in
    let same : place ≡ get_or places n 0 = omega (arith, is, le, here, from) in
    true≢false (sym (subst (λ (p : ℕ). is_in runs p ≡ true) same has) ∙ isnt))
