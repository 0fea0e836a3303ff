-- What is kept of the pairs of trees that were compared.
use Rattle.std.proofs.Common.{◌≡◌, Bool, true, false, cond, ◌&&◌, List, Some, refl, sym, ◌∙◌, subst, Vec, Global}
use Rattle.std.specs.Map.{lookup}
use Rattle.git_object.specs.Content.{Content}
use Rattle.ref_store.specs.Objects.{same_id}
use Rattle.ref_store.proofs.ObjectLemmas.{id_is}
use Rattle.vref.specs.Comparisons.{same_pair, AreDifferencesOf, IsSound}
use Rattle.vref.specs.Bases.{AreBased}
use Rattle.vref.specs.declared.bases.Bases.{Bases}
use Rattle.vref.specs.declared.differences.Difference.{Difference}
use Rattle.vref.specs.declared.comparisons.TreePair.{TreePair}
use Rattle.vref.specs.declared.comparisons.Comparisons.{Comparisons}

both : (a b : Bool) → (a && b) ≡ true → (a ≡ true) × (b ≡ true)
both true b is = (refl, is)
both false b is = absurd cc

pair_is : (p q : TreePair) → same_pair p q ≡ true → p ≡ q
pair_is p q is =
    let parts = both (same_id p.old q.old) (same_id p.new q.new) is in
    let old = id_is p.old q.old parts.0 in
    let new = id_is p.new q.new parts.1 in
    λ i. record { old = old i; new = new i }

-- one right list more
pub sound_more : (objects : List Content) (before after : Comparisons) (pair : TreePair) (list : Vec Difference Global) → IsSound objects before → AreDifferencesOf objects pair list.items
    → ((q : TreePair) → lookup (same_pair q) after.pairs.entries ≡ cond (same_pair pair q) (Some list) (lookup (same_pair q) before.pairs.entries)) → after.bases ≡ before.bases → IsSound objects after
sound_more objects before after pair list sound right updates same_bases = record {
  pairs = λ q l is. by_test q l (same_pair pair q) refl (sym (updates q) ∙ is);
  bases = subst (λ (bases : Bases). AreBased objects bases) (sym same_bases) sound.bases;
}
  where
    by_test : (q : TreePair) (l : Vec Difference Global) (b : Bool) → same_pair pair q ≡ b → cond b (Some list) (lookup (same_pair q) before.pairs.entries) ≡ Some l → AreDifferencesOf objects q l.items
    by_test q l true e is =
        let same : list ≡ l = cc in
        subst (λ (p : TreePair). AreDifferencesOf objects p l.items) (pair_is pair q e) (subst (λ (v : Vec Difference Global). AreDifferencesOf objects pair v.items) same right)
    by_test q l false e is = sound.pairs q l is
