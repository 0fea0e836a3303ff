-- The entries of a tree have each name once.
use Rattle.std.proofs.Common.{◌≡◌, ℕ, ◌&&◌, ◌||◌, not, Bool, true, false, cond, List, [], ◌∷◌, ◌++◌, None, Some, refl, ◌∙◌, ap, subst}
use Rattle.std.specs.List.{list_any}
use Rattle.std.specs.Str.{bytes_eq}
use Rattle.git_object.specs.Object.{entries_of, fault_of}
use Rattle.git_object.specs.Spelling.{InOrder}
use Rattle.git_object.specs.Tree.{Entry, may_follow, sorts_below}
use Rattle.git_object.specs.declared.kind.Kind.{Kind}
use Rattle.git_object.specs.declared.kind.Kind.TheVariants.{Commit, Tree, Blob, Tag}
use Rattle.git_object.specs.declared.fault.ObjFault.TheVariants.{BadTree}
use Rattle.git_object.proofs.FormLemmas.{tree_spelled, no_fault}
use Rattle.vref.specs.Rows.{entry_named}
use Rattle.vref.specs.Differences.{NamesOnce}

either : (a b : Bool) → (a || b) ≡ false → (a ≡ false) × (b ≡ false)
either true b is = absurd cc
either false b is = (refl, is)

second : (a b : Bool) → (a && not b) ≡ true → b ≡ false
second true true is = absurd cc
second true false is = refl
second false b is = absurd cc

may_not : (before : List Entry) (e : Entry) → may_follow before e ≡ true → list_any (λ f. bytes_eq f.name e.name) before ≡ false
may_not [] e is = refl
may_not (nearest ∷ others) e is = second (sorts_below nearest e) (list_any (λ f. bytes_eq f.name e.name) (nearest ∷ others)) is

once_before : (before front : List Entry) (e : Entry) (rest : List Entry) → InOrder before (front ++ e ∷ rest) → (entry_named front e.name ≡ None) × (list_any (λ f. bytes_eq f.name e.name) before ≡ false)
once_before before [] e rest order = (refl, may_not before e order.0)
once_before before (d ∷ front) e rest order =
    let behind = once_before (d ∷ before) front e rest order.1 in
    let parts = either (bytes_eq d.name e.name) (list_any (λ f. bytes_eq f.name e.name) before) behind.1 in
    (ap (λ b. cond b (Some d) (entry_named front e.name)) parts.0 ∙ behind.0, parts.1)

once_none : NamesOnce []
once_none [] e rest is = absurd cc
once_none (d ∷ front) e rest is = absurd cc

-- a body without fault has each name once
pub once_in : (kind : Kind) (body : List ℕ) → fault_of kind body ≡ None → NamesOnce (entries_of kind body)
once_in Commit body good = once_none
once_in Tree body good = λ front e rest is. (once_before [] front e rest (subst (λ (es : List Entry). InOrder [] es) is (tree_spelled body (no_fault BadTree _ good)).order)).0
once_in Blob body good = once_none
once_in Tag body good = once_none
