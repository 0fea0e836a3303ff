use Rattle.std.proofs.Common.{◌≡◌, ◌==◌, ◌+◌, ◌≤◌, ℕ, Bool, true, false, cond, take, get_or, sym, ◌∙◌, ap, arith}
use Rattle.std.proofs.lemmas.Bool.Decides.{nat_tests}
use Rattle.std.proofs.lemmas.List.Splits.{length-slice_split}
use Rattle.std.proofs.lemmas.List.Sums.{count_by_more_yes, sum_by-take-le}
use Rattle.std.specs.List.{count_by}
use Rattle.ref_store.proofs.ListLemmas.{take_past}
use Rattle.ref_store.proofs.ref_name.has_three_pieces.Goals as goal

pub returns-then-one : goal.returns-then-one
returns-then-one c =
    let text = c.args.text.now in
    let i = c.loop-c.c-index in
    let yes : (get_or text i 0 == 47) ≡ true = grind (arith, nat_tests, c.if-c-eq47.true) in
    let more = count_by_more_yes (λ (c : ℕ). c == 47) text i 0 c.loop-c-test.true yes in
    let within = sum_by-take-le (λ (c : ℕ). cond (c == 47) 1 0) text (i + 1) in
    let one : count_by (λ (c : ℕ). c == 47) (take i text) ≡ 1 = c.loop-c.invariant ∙ ap (λ b. cond b 1 0) c.if-one.true in
    let len = length-slice_split (λ (c : ℕ). c == 47) text in
    grind (arith, nat_tests, more, within, one, len)

pub returns : goal.returns
returns c =
    let text = c.args.text.now in
    let all : count_by (λ (c : ℕ). c == 47) text ≡ cond c.loop-c.one 1 0 = ap (count_by (λ (c : ℕ). c == 47)) (sym (take_past text c.loop-c.c-index c.loop-c-test.false)) ∙ c.loop-c.invariant in
    let few = at_most_one c.loop-c.one in
    let len = length-slice_split (λ (c : ℕ). c == 47) text in
    grind (arith, nat_tests, all, few, len)
  where
    at_most_one : (b : Bool) → cond b 1 0 ≤ 1
    at_most_one true = omega (arith)
    at_most_one false = omega (arith)
