-- What is kept of what the rules said of changed paths.
use Rattle.std.proofs.Common.{◌≡◌, Bool, true, false, cond, ◌&&◌, nat_eq, Option, Some, refl, sym, ◌∙◌, subst, arith}
use Rattle.std.proofs.lemmas.Bool.Decides.{nat_tests}
use mathlib.Core.Bool.{beq}
use Rattle.std.specs.Map.{lookup}
use Rattle.ref_store.specs.Objects.{same_id}
use Rattle.ref_store.proofs.ObjectLemmas.{both_true, id_is}
use Rattle.update_check.specs.Check.{CheckView}
use Rattle.update_check.specs.PathVerdicts.{AreRight, SaysOfTrees, same_change}
use Rattle.update_check.specs.declared.refusal.Refusal.{Refusal}
use Rattle.update_check.specs.declared.path_verdicts.TreeChange.{TreeChange}
use Rattle.update_check.specs.declared.path_verdicts.PathVerdicts.{PathVerdicts}

same_bool : (a b : Bool) → beq a b ≡ true → a ≡ b
same_bool true true is = refl
same_bool true false is = absurd cc
same_bool false true is = absurd cc
same_bool false false is = refl

change_is : (p q : TreeChange) → same_change p q ≡ true → p ≡ q
change_is p q is =
    let merges = beq p.merge q.merge in
    let bases = nat_eq p.base q.base && merges in
    let news = beq p.has_new q.has_new && bases in
    let olds = beq p.has_old q.has_old && news in
    let a = both_true (same_id p.old q.old) (same_id p.new q.new && olds) is in
    let b = both_true (same_id p.new q.new) olds a.1 in
    let c = both_true (beq p.has_old q.has_old) news b.1 in
    let d = both_true (beq p.has_new q.has_new) bases c.1 in
    let e = both_true (nat_eq p.base q.base) merges d.1 in
    let old = id_is p.old q.old a.0 in
    let new = id_is p.new q.new b.0 in
    let has_old = same_bool p.has_old q.has_old c.0 in
    let has_new = same_bool p.has_new q.has_new d.0 in
    let base : p.base ≡ q.base = grind (arith, nat_tests, e.0) in
    let merge = same_bool p.merge q.merge e.1 in
    λ i. record { old = old i; new = new i; has_old = has_old i; has_new = has_new i; base = base i; merge = merge i }

-- one right answer more
pub right_more : (check : CheckView) (before after : PathVerdicts) (trees : TreeChange) (said : Option Refusal) → AreRight check before → SaysOfTrees check trees said
    → ((q : TreeChange) → lookup (same_change q) after.said.entries ≡ cond (same_change trees q) (Some said) (lookup (same_change q) before.said.entries)) → AreRight check after
right_more check before after trees said right says updates = λ q other is. by_test q other (same_change trees q) refl (sym (updates q) ∙ is)
  where
    by_test : (q : TreeChange) (other : Option Refusal) (b : Bool) → same_change trees q ≡ b → cond b (Some said) (lookup (same_change q) before.said.entries) ≡ Some other → SaysOfTrees check q other
    by_test q other true e is =
        let same : said ≡ other = cc in
        subst (λ (t : TreeChange). SaysOfTrees check t other) (change_is trees q e) (subst (λ (o : Option Refusal). SaysOfTrees check trees o) same says)
    by_test q other false e is = right q other is
