-- Tables of patterns, and what reading a pattern gives.
use Rattle.std.proofs.Common.{◌≡◌, ℕ, Bool, true, false, cond, List, [], ◌∷◌, ◌++◌, Option, Some, None, refl, sym, ap, ◌∙◌, subst}
use Rattle.std.specs.Prelude.{◌↔◌, IsTrue, Ok, Err}
use Rattle.std.proofs.lemmas.Bool.{both_ways}
use Rattle.refex.specs.Pattern.{Pattern, Starts, Whole}
use Rattle.refex.specs.declared.faults.Hole.TheVariants.{Creator, User}
use Rattle.refex.proofs.OnePattern.{one_pattern}
use Rattle.std.specs.Ordering.{nat_cmp, eq_by_cmp}
use Rattle.std.specs.Cmp.Lexicographic.{bytes_decides, slice_cmp, nat_list_cmp_total, texts_ties}
use Rattle.std.specs.FinMap as named
use Rattle.base_types.specs.Names.{ByName}
use Rattle.conf_groups.proofs.DistinctLemmas.{held_with}
use Rattle.refex.specs.Program.{pattern_of}
use Rattle.refex.specs.Refex.{IsRefex, IsRefused, has_name}
use Rattle.refex.specs.declared.faults.Hole.{Hole}
use Rattle.refex.specs.declared.faults.RefexFault.{RefexFault}
use Rattle.refex.specs.declared.faults.RefexFault.TheVariants.{Syntax, TooManyPositions, Unsupported, NoMemory}
use Rattle.rule_compile.specs.Answers.{GivesPattern, IsOfText, StopsBy}
use Rattle.rule_compile.specs.declared.stop.Stop.{Stop}
use Rattle.rule_compile.specs.declared.stop.Stop.TheVariants.{OutOfMemory, Refused}
use Rattle.refex.specs.declared.items.Step.{Step}
use Rattle.refex.proofs.OneAnswer.{refex_err, refused_err}
use Rattle.rule_compile.specs.Patterns.{Patterns, AreTrue}
use Rattle.rule_compile.specs.Tables.{AreNamed, Tells}

pub tells_with : (names : ByName Bool) (items : List (List ℕ)) (item : List ℕ) → Tells names items → Tells (named.insert names item true) (items ++ item ∷ [])
tells_with names items item h = λ word. held_with names items item word (h word)

same_text : (b : Bool) (q text found : List ℕ) (o : Option (List ℕ)) → (b ≡ true → q ≡ text) → (o ≡ Some found → found ≡ q) → cond b (Some text) o ≡ Some found → found ≡ q
same_text true q text found o same old e = let eq : text ≡ found = cc in sym eq ∙ sym (same refl)
same_text false q text found o same old e = old e

-- a text more, with itself
pub named_with : (table : ByName (List ℕ)) (text : List ℕ) → AreNamed table → AreNamed (named.insert table text text)
named_with table text h = λ q found e. same_text (eq_by_cmp (slice_cmp nat_cmp) q text) q text found (named.get table q)
    (λ t. (bytes_decides q text).0 (texts_ties q text ∙ t)) (h q found) (sym (named.get-insert nat_list_cmp_total table text text q) ∙ e)

pub named_copy : (table more : ByName (List ℕ)) (text copy found : List ℕ) → AreNamed table → found ≡ text → copy ≡ text → more ≡ named.insert table copy found → AreNamed more
named_copy table more text copy found h same copied grown =
    subst (λ (m : ByName (List ℕ)). AreNamed m) (sym (grown ∙ ap (λ (t : List ℕ). named.insert table copy t) (same ∙ sym copied))) (named_with table copy h)

pub none_named : AreNamed (named.empty {X = List ℕ} {R = slice_cmp nat_cmp})
none_named = λ text found e. absurd (let bad : None ≡ Some found = sym (named.get-empty (slice_cmp nat_cmp) text) ∙ e in cc)

-- a pattern isn't refused
pub no_fault : (ps : Patterns) → AreTrue ps → (hole : Hole) (text : List ℕ) (p : Pattern) → IsRefex hole text p → ps.fault hole text ≡ None
no_fault ps ok hole text p is = by_case (ps.fault hole text) refl where
  by_case : (o : Option RefexFault) → ps.fault hole text ≡ o → ps.fault hole text ≡ None
  by_case None e = e
  by_case (Some f) e = absurd (let same : Ok text ≡ Err f = (refex_err hole text p is text f).1 (ok.refused hole text f e) in cc)

-- a text that is refused has that fault
pub has_fault : (ps : Patterns) → AreTrue ps → (hole : Hole) (text : List ℕ) (f : RefexFault) → IsRefused hole text f → ps.fault hole text ≡ Some f
has_fault ps ok hole text f refused = by_case (ps.fault hole text) refl where
  by_case : (o : Option RefexFault) → ps.fault hole text ≡ o → ps.fault hole text ≡ Some f
  by_case None e =
      let read = ok.sound hole text e in
      absurd (let same : Ok text ≡ Err f = (refex_err hole text read.0 read.1 text f).1 refused in cc)
  by_case (Some g) e =
      let both = (refused_err {A = List ℕ} hole text f refused g).1 (ok.refused hole text g e) in
      let same : g ≡ f = cc in
      e ∙ ap Some same

same_truth : (a b : Bool) → (a ≡ true → b ≡ true) → (b ≡ true → a ≡ true) → a ≡ b
same_truth true true f g = refl
same_truth true false f g = sym (f refl)
same_truth false true f g = g refl
same_truth false false f g = refl

-- what a pattern that was read takes, with a creator's name
pub takes_as : (ps : Patterns) → AreTrue ps → (text creator name : List ℕ) (steps : List Step) → IsRefex Creator text (pattern_of steps) → (b : Bool)
    → (IsTrue b ↔ Whole (pattern_of steps) creator name) → b ≡ ps.takes text creator name
takes_as ps ok text creator name steps is b taken = same_truth b (ps.takes text creator name)
    (λ t. (ok.whole text creator name).1 (pattern_of steps, is, taken.0 t))
    (λ t. let found = (ok.whole text creator name).0 t in
    taken.1 (subst (λ (p : Pattern). Whole p creator name) (one_pattern _ found.0 (pattern_of steps) found.1.spells.reads is.spells.reads) found.2))

-- which names of refs a refex that was read starts, for a user
pub starts_as : (ps : Patterns) → AreTrue ps → (text user name : List ℕ) (steps : List Step) → IsRefex User text (pattern_of steps) → (b : Bool)
    → (IsTrue b ↔ Starts (pattern_of steps) user name) → b ≡ ps.starts text user name
starts_as ps ok text user name steps is b started = same_truth b (ps.starts text user name)
    (λ t. (ok.from_start text user name).1 (pattern_of steps, is, started.0 t))
    (λ t. let found = (ok.from_start text user name).0 t in
    started.1 (subst (λ (p : Pattern). Starts p user name) (one_pattern _ found.0 (pattern_of steps) found.1.spells.reads is.spells.reads) found.2))

-- whether a pattern that was read has the hole
pub hole_as : (ps : Patterns) → AreTrue ps → (text : List ℕ) (steps : List Step) → IsRefex Creator text (pattern_of steps) → (b : Bool)
    → (IsTrue b ↔ IsTrue (has_name (pattern_of steps))) → b ≡ ps.has_hole text
hole_as ps ok text steps is b has = same_truth b (ps.has_hole text)
    (λ t. (ok.hole text).1 (pattern_of steps, is, has.0 t))
    (λ t. let found = (ok.hole text).0 t in
    has.1 (subst (λ (p : Pattern). IsTrue (has_name p)) (one_pattern _ found.0 (pattern_of steps) found.1.spells.reads is.spells.reads) found.2))

-- a text that is no pattern takes nothing
pub takes_none : (ps : Patterns) → AreTrue ps → (text creator name : List ℕ) (f : RefexFault) → IsRefused Creator text f → false ≡ ps.takes text creator name
takes_none ps ok text creator name f refused = same_truth false (ps.takes text creator name)
    (λ t. absurd (both_ways false refl t))
    (λ t. let found = (ok.whole text creator name).0 t in
    absurd (let same : Ok text ≡ Err f = (refex_err Creator text found.0 found.1 text f).1 refused in cc))

-- what refuses a text is its fault
pub gives_fault : (X : Type 0) (ps : Patterns) → AreTrue ps → (hole : Hole) (text : List ℕ) (f : RefexFault) (stop : Stop)
    → ((f ≡ NoMemory → ⊥) → IsRefused hole text f) → StopsBy f text stop → GivesPattern {X = X} (Err stop) (ps.fault hole text) text
gives_fault X ps ok hole text f OutOfMemory h s = tt
gives_fault X ps ok hole text f (Refused k) h s = (f, has_fault ps ok hole text f (h (of_text f s.1)), s.0) where
  of_text : (f : RefexFault) → IsOfText f → f ≡ NoMemory → ⊥
  of_text (Syntax at) t e = cc
  of_text (TooManyPositions n) t e = cc
  of_text (Unsupported at) t e = cc
  of_text NoMemory t e = t
