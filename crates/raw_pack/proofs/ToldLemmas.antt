-- What a source that tells its input is told to have answered.
use Rattle.std.proofs.Common.{◌≡◌, ℕ, List, [], ◌++◌, length, take, drop, Option, Some, None, Result, Ok, Err, refl, sym, ◌∙◌, ap, subst, inl, inr, ◌⊎◌}
use Rattle.std.proofs.lemmas.List.{take_at, drop_at, append-nil}
use Rattle.std.specs.Io.KnownBytes.{Consumes, IsAtEnd}
use Rattle.base_types.specs.Fronts.{Front, Whole, Broken, Partial}
use Rattle.pktline_core.specs.LinkState.{LinkState}
use Rattle.raw_pack.specs.Reading.{ShowsFault, IsNoMore, Decides, ReadsFront, AnswersInput, AnswersLeft}
use Rattle.raw_pack.specs.declared.fault.PackFault.{PackFault}
use Rattle.raw_pack.specs.declared.fault.PackFault.TheVariants.{NotAPack, Version, Delta, BadHead, BadObject, Truncated, TrailerDiffers, TooLarge, TooMany, ReadFault, NoMemory}

module _ {V : Type 0} (at : List ℕ → Front V PackFault) (whole_stays : (xs ys : List ℕ) (n : ℕ) (v : V) → at xs ≡ Whole n v → at (xs ++ ys) ≡ Whole n v)
    (broken_stays : (xs ys : List ℕ) (n : ℕ) (fault : PackFault) → at xs ≡ Broken n fault → at (xs ++ ys) ≡ Broken n fault) (old new : LinkState) where
  module _ (input taken rest : List ℕ) (consumed : input ≡ taken ++ rest) where
    left_is : ◌≡◌ {A = Option (List ℕ)} (Some rest) (Some (drop (length taken) input))
    left_is = ap (λ (l : List ℕ). Some l) (sym (drop_at taken rest (length taken) refl) ∙ ap (drop (length taken)) (sym consumed))

    told_fault : (fault : PackFault) → new.left ≡ Some rest → ShowsFault (at taken) (length taken) new fault
        → ((n : ℕ) × (at input ≡ Broken n fault) × (◌≡◌ {A = Option (List ℕ)} (Some rest) (Some (drop n input)))) ⊎ ((at input ≡ Partial fault) × (◌≡◌ {A = Option (List ℕ)} (Some rest) (Some [])))
    told_fault fault is (inl broken) = inl (length taken, ap at consumed ∙ broken_stays taken rest (length taken) fault broken, left_is)
    told_fault fault is (inr (partial, end)) =
        let none : rest ≡ [] = subst IsAtEnd is end in
        inr (ap at (consumed ∙ ap (λ (l : List ℕ). taken ++ l) none ∙ append-nil taken) ∙ partial, ap (λ (l : List ℕ). Some l) none)

    told_by : (answer : Result V PackFault) → new.left ≡ Some rest → Decides (at taken) (length taken) old new answer → AnswersInput at input (Some rest) answer
    told_by (Ok v) is d = (length taken, ap at consumed ∙ whole_stays taken rest (length taken) v d, left_is)
    told_by (Err ReadFault) is d = (length taken, (d.0.0, ap at (ap (take (length taken)) consumed ∙ take_at taken rest (length taken) refl) ∙ d.0.1), left_is)
    told_by (Err NoMemory) is d = (length taken, subst (λ (l : List ℕ). IsNoMore (at l) (length taken)) (sym (ap (take (length taken)) consumed ∙ take_at taken rest (length taken) refl)) d, left_is)
    told_by (Err NotAPack) is d = told_fault NotAPack is d
    told_by (Err (Version v)) is d = told_fault (Version v) is d
    told_by (Err (Delta i)) is d = told_fault (Delta i) is d
    told_by (Err (BadHead i)) is d = told_fault (BadHead i) is d
    told_by (Err (BadObject i)) is d = told_fault (BadObject i) is d
    told_by (Err (Truncated i)) is d = told_fault (Truncated i) is d
    told_by (Err (TrailerDiffers r c)) is d = told_fault (TrailerDiffers r c) is d
    told_by (Err (TooLarge i)) is d = told_fault (TooLarge i) is d
    told_by (Err (TooMany i)) is d = told_fault (TooMany i) is d

  told_left : (answer : Result V PackFault) (input : List ℕ) (left : Option (List ℕ)) (r : ReadsFront at old new answer) → new.left ≡ left → Consumes (Some input) left r.taken → AnswersInput at input left answer
  told_left answer input None r is consumed = absurd consumed
  told_left answer input (Some rest) r is consumed = told_by input r.taken rest consumed answer is r.decided

  told_of : (answer : Result V PackFault) (left : Option (List ℕ)) (r : ReadsFront at old new answer) → old.left ≡ left → AnswersLeft at left new.left answer
  unfolding AnswersLeft
  told_of answer None r is = tt
  told_of answer (Some input) r is = told_left answer input new.left r refl (subst (λ (l : Option (List ℕ)). Consumes l new.left r.taken) is r.consumed)

  pub told : (answer : Result V PackFault) → ReadsFront at old new answer → AnswersLeft at old.left new.left answer
  told answer r = told_of answer old.left r refl
