-- The answers of a reading exclude each other.
use Rattle.std.proofs.Common.{◌≡◌, ◌↔◌, ℕ, List, Ok, Err, Some, None, true, false, refl, sym, ◌∙◌, ap, subst, arith}
use Rattle.std.proofs.lemmas.Bool.{both_ways}
use Rattle.std.specs.Prelude.{IsErrOf}
use Rattle.refex.specs.Pattern.{Pattern, positions}
use Rattle.refex.specs.Refex.{IsRefex, IsRefused, Spells}
use Rattle.refex.specs.declared.faults.Hole.{Hole}
use Rattle.refex.specs.declared.faults.Offence.TheVariants as offences
use Rattle.refex.specs.declared.faults.RefexFault.{RefexFault}
use Rattle.refex.specs.declared.faults.RefexFault.TheVariants.{Syntax, TooManyPositions, Unsupported, NoMemory}
use Rattle.refex.proofs.OnePattern.{one_pattern}

one_meaning : (hole : Hole) (text : List ℕ) (p q : Pattern) → Spells hole text p → Spells hole text q → p ≡ q
one_meaning hole text p q s t = one_pattern _ p q s.reads t.reads

-- a text is refused for one cause at most
one_cause : (hole : Hole) (text : List ℕ) (f g : RefexFault) → IsRefused hole text f → IsRefused hole text g → f ≡ g
one_cause hole text (Syntax a) (Syntax b) e d = let same : Some (offences.Syntax a) ≡ Some (offences.Syntax b) = sym e ∙ d in cc
one_cause hole text (Syntax a) (Unsupported b) e d = absurd (let same : Some (offences.Syntax a) ≡ Some (offences.Unsupported b) = sym e ∙ d in cc)
one_cause hole text (Unsupported a) (Syntax b) e d = absurd (let same : Some (offences.Unsupported a) ≡ Some (offences.Syntax b) = sym e ∙ d in cc)
one_cause hole text (Unsupported a) (Unsupported b) e d = let same : Some (offences.Unsupported a) ≡ Some (offences.Unsupported b) = sym e ∙ d in cc
one_cause hole text (Syntax a) (TooManyPositions n) e (p, s, _, _) = absurd (let same : Some (offences.Syntax a) ≡ None = sym e ∙ s.sound in cc)
one_cause hole text (Unsupported a) (TooManyPositions n) e (p, s, _, _) = absurd (let same : Some (offences.Unsupported a) ≡ None = sym e ∙ s.sound in cc)
one_cause hole text (TooManyPositions n) (Syntax a) (p, s, _, _) e = absurd (let same : Some (offences.Syntax a) ≡ None = sym e ∙ s.sound in cc)
one_cause hole text (TooManyPositions n) (Unsupported a) (p, s, _, _) e = absurd (let same : Some (offences.Unsupported a) ≡ None = sym e ∙ s.sound in cc)
one_cause hole text (TooManyPositions n) (TooManyPositions m) (p, s, _, e) (q, t, _, d) =
    let same = ap positions (one_meaning hole text p q s t) in let equal : n ≡ m = omega arith in ap TooManyPositions equal
one_cause hole text NoMemory g e d = absurd e
one_cause hole text f NoMemory e d = absurd d

-- a pattern isn't refused
not_refused : (hole : Hole) (text : List ℕ) (p : Pattern) (f : RefexFault) → IsRefex hole text p → IsRefused hole text f → ⊥
not_refused hole text p (Syntax a) r e = let same : Some (offences.Syntax a) ≡ None = sym e ∙ r.spells.sound in cc
not_refused hole text p (Unsupported a) r e = let same : Some (offences.Unsupported a) ≡ None = sym e ∙ r.spells.sound in cc
not_refused hole text p (TooManyPositions n) r (q, s, many, _) =
    let same = ap positions (one_meaning hole text p q r.spells s) in let few = r.fits in omega arith
not_refused hole text p NoMemory r e = e

pub refused_ok : (hole : Hole) (text : List ℕ) (f : RefexFault) → IsRefused hole text f → (false ≡ true) ↔ ((p : Pattern) × IsRefex hole text p)
refused_ok hole text f refused = (λ none. absurd (both_ways false refl none), λ x. absurd (not_refused hole text x.0 f x.1 refused))

module _ {A : Type 0} (hole : Hole) (text : List ℕ) where
  pub refused_err : (f : RefexFault) → IsRefused hole text f → (g : RefexFault) → IsErrOf {T = A} (Err f) g ↔ IsRefused hole text g
  refused_err f refused g = (
    λ e. let same : f ≡ g = cc in subst (IsRefused hole text) same refused,
    λ other. ap Err (one_cause hole text f g refused other),
  )

  pub refex_err : (p : Pattern) → IsRefex hole text p → (x : A) (g : RefexFault) → IsErrOf (Ok x) g ↔ IsRefused hole text g
  refex_err p r x g = (λ e. absurd (let bad : Ok x ≡ Err g = e in cc), λ refused. absurd (not_refused hole text p g r refused))
