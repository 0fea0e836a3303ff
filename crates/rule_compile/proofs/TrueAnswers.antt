-- There are true answers about texts: what the laws of refex give, and what is decided of the one pattern of
-- a text.
use Rattle.std.proofs.Common.{◌≡◌, ℕ, ◌≤◌, ◌<◌, min, inl, inr, List, Option, Some, None, sym, ◌∙◌, refl, subst, arith}
use Rattle.std.specs.Prelude.{IsTrue}
use Rattle.refex.specs.Pattern.{Pattern, Starts, Whole, positions}
use Rattle.refex.specs.Refex.{IsRefex, IsRefused, Spells, offence, has_name}
use Rattle.refex.specs.declared.faults.Hole.{Hole}
use Rattle.refex.specs.declared.faults.Hole.TheVariants.{Creator, User}
use Rattle.refex.specs.declared.faults.Offence.{Offence}
use Rattle.refex.specs.declared.faults.Offence.TheVariants as offences
use Rattle.refex.specs.declared.faults.RefexFault.{RefexFault}
use Rattle.refex.specs.declared.faults.RefexFault.TheVariants.{Syntax, TooManyPositions, Unsupported}
use Rattle.refex.specs.declared.limits.TheConstants.{MAX_COUNT, MAX_POSITIONS}
use Rattle.rule_compile.specs.Patterns.{Patterns, AreTrue, StartsName, TakesName, HasHole}
use Rattle.rule_compile.proofs.Decided.{Decided, answer, answer_is, at_most, truth, decided_starts, decided_whole}

module _ (sound : (hole : Hole) (text : List ℕ) → offence hole text ≡ None → (p : Pattern) × Spells hole text p)
    (one : (hole : Hole) (text : List ℕ) (p q : Pattern) → Spells hole text p → Spells hole text q → p ≡ q) where
  abbrev Verdict : Hole → List ℕ → Option RefexFault → Type 0
  Verdict hole text None = (p : Pattern) × IsRefex hole text p
  Verdict hole text (Some fault) = IsRefused hole text fault

  of_spelled : (hole : Hole) (text : List ℕ) (p : Pattern) → Spells hole text p → (f : Option RefexFault) × Verdict hole text f
  of_spelled hole text p s = elim (at_most (positions p) MAX_POSITIONS) [
    | inl fits ↦ (None, (p, record { spells = s; fits = fits }))
    | inr none ↦ (Some (TooManyPositions (min MAX_COUNT (positions p))), (p, s, over p none, refl))
  ] where
    over : (p : Pattern) → (positions p ≤ MAX_POSITIONS → ⊥) → MAX_POSITIONS < positions p
    over p none = omega arith

  of_offence : (hole : Hole) (text : List ℕ) (o : Option Offence) → offence hole text ≡ o → (f : Option RefexFault) × Verdict hole text f
  of_offence hole text None e = let r = sound hole text e in of_spelled hole text r.0 r.1
  of_offence hole text (Some (offences.Syntax at)) e = (Some (Syntax at), e)
  of_offence hole text (Some (offences.Unsupported at)) e = (Some (Unsupported at), e)

  verdict : (hole : Hole) (text : List ℕ) → (f : Option RefexFault) × Verdict hole text f
  verdict hole text = of_offence hole text (offence hole text) refl

  -- what is decided of each pattern is decided of the pattern of a text
  module _ (hole : Hole) (text : List ℕ) (Q : Pattern → Type 0) (decided : (p : Pattern) → Decided (Q p)) where
    of_refex : (p : Pattern) → IsRefex hole text p → Decided (Q p) → Decided ((p : Pattern) × IsRefex hole text p × Q p)
    of_refex p is (inl x) = inl (p, is, x)
    of_refex p is (inr none) = inr (λ (q, is_too, x). none (subst Q (one hole text q p is_too.spells is.spells) x))

    none_large : (p : Pattern) → Spells hole text p → (positions p ≤ MAX_POSITIONS → ⊥) → ((p : Pattern) × IsRefex hole text p × Q p) → ⊥
    none_large p s none (q, is, x) = none (subst (λ (r : Pattern). positions r ≤ MAX_POSITIONS) (one hole text q p is.spells s) is.fits)

    of_text : (o : Option Offence) → offence hole text ≡ o → Decided ((p : Pattern) × IsRefex hole text p × Q p)
    of_text None e =
        let r = sound hole text e in
        elim (at_most (positions r.0) MAX_POSITIONS) [
          | inl fits ↦ of_refex r.0 (record { spells = r.1; fits = fits }) (decided r.0)
          | inr none ↦ inr (none_large r.0 r.1 none)
        ]
    of_text (Some o) e = inr (λ (q, is, x). let bad : Some o ≡ None = sym e ∙ is.spells.sound in cc)

    of_the_pattern : Decided ((p : Pattern) × IsRefex hole text p × Q p)
    of_the_pattern = of_text (offence hole text) refl

  starts_name : (text user name : List ℕ) → Decided (StartsName text user name)
  starts_name text user name = of_the_pattern User text (λ p. Starts p user name) (λ p. decided_starts p user name)

  takes_name : (text creator name : List ℕ) → Decided (TakesName text creator name)
  takes_name text creator name = of_the_pattern Creator text (λ p. Whole p creator name) (λ p. decided_whole p creator name)

  has_hole : (text : List ℕ) → Decided (HasHole text)
  has_hole text = of_the_pattern Creator text (λ p. IsTrue (has_name p)) (λ p. truth (has_name p))

  pub some_true : (ps : Patterns) × AreTrue ps
  some_true = (
    record {
      fault = λ hole text. (verdict hole text).0;
      starts = λ text user name. answer (starts_name text user name);
      takes = λ text creator name. answer (takes_name text creator name);
      has_hole = λ text. answer (has_hole text);
    },
    record {
      sound = λ hole text e. subst (Verdict hole text) e (verdict hole text).1;
      refused = λ hole text fault e. subst (Verdict hole text) e (verdict hole text).1;
      from_start = λ text user name. answer_is (starts_name text user name);
      whole = λ text creator name. answer_is (takes_name text creator name);
      hole = λ text. answer_is (has_hole text);
    },
  )
