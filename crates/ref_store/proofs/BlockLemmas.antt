-- Blocks that two names have in common.
use Rattle.std.proofs.Common.{◌≡◌, ℕ, suc, ◌+◌, ◌≤◌, ◌==◌, true, ◌&&◌, nat_eq, nat_le, [], ◌∷◌, ◌++◌, length, drop, slice_range, sym, ◌∙◌, ap, arith}
use Rattle.std.proofs.lemmas.Bool.Decides.{nat_tests}
use Rattle.std.proofs.lemmas.List.{length-append, length-drop}
use Rattle.std.proofs.lemmas.List.Folds.{drop_split}
use Rattle.std.specs.Prelude.{if◌then◌else◌}
use lib.Pointwise.{pointwise}
use Rattle.ref_store.specs.Refs.{Name}
use Rattle.ref_store.specs.Odds.{common, has_same_block}
use Rattle.ref_store.proofs.ObjectLemmas.{both_true, same_bytes}

common_front : (xs a b : Name) → common (xs ++ a) (xs ++ b) ≡ length xs + common a b
common_front [] a b = omega (arith)
common_front (x ∷ xs) a b =
    let same : (x == x) ≡ true = grind (arith, nat_tests) in
    let step : common (x ∷ xs ++ a) (x ∷ xs ++ b) ≡ suc (common (xs ++ a) (xs ++ b)) = ap (λ t. if t then suc (common (xs ++ a) (xs ++ b)) else 0) same in
    omega (arith, step, common_front xs a b)

-- what two names have in common at a place goes on behind the block that they have there
pub common_block : (a b : Name) (i : ℕ) → has_same_block a b i ≡ true → (i + 64 ≤ length a) × (common (drop i a) (drop i b) ≡ 64 + common (drop (i + 64) a) (drop (i + 64) b))
common_block a b i is =
    let block : Name = slice_range a i (i + 64) in
    let other : Name = slice_range b i (i + 64) in
    let parts = both_true (nat_le (i + 64) (length a) && nat_le (i + 64) (length b)) (pointwise nat_eq block other) is in
    let fits : nat_le (i + 64) (length a) ≡ true = (both_true (nat_le (i + 64) (length a)) (nat_le (i + 64) (length b)) parts.0).0 in
    let within : i + 64 ≤ length a = grind (arith, nat_tests, fits) in
    let same : block ≡ other = same_bytes block other parts.1 in
    let front = drop_split a i (i + 64) (omega (arith)) in
    let len : length block ≡ 64 = omega (arith, within, ap length front, length-append block (drop (i + 64) a), length-drop i a, length-drop (i + 64) a) in (
      within,
      ap (λ l. common l (drop i b)) front
          ∙ ap (common (block ++ drop (i + 64) a)) (drop_split b i (i + 64) (omega (arith)) ∙ ap (λ l. l ++ drop (i + 64) b) (sym same))
          ∙ common_front block (drop (i + 64) a) (drop (i + 64) b)
          ∙ ap (λ n. n + common (drop (i + 64) a) (drop (i + 64) b)) len,
    )
