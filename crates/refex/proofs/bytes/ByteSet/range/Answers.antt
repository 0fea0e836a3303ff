use Rattle.std.proofs.Common.{arith, ap, ◌≡◌, ◌+◌, ◌≤◌, ◌&&◌, ◌∙◌, ℕ, nat_le, nat_lt}
use Rattle.std.proofs.Math.Path.{fun_ext}
use Rattle.std.proofs.lemmas.Bool.Decides.{nat_tests}
use Rattle.refex.proofs.bytes.ByteSet.range.Goals as goal

pub loop-c-init : goal.loop-c-init
loop-c-init c = λ k. let e = ap (λ f. f k) c.empty-set.ensures in grind (arith, nat_tests)

pub loop-c-preserved : goal.loop-c-preserved
loop-c-preserved c = λ k.
    let e = ap (λ f. f k) c.with_byte-set.ensures in
    let before = c.loop-c.invariant k in
    let low = c.loop-c.auto.c in
    grind (arith, nat_tests)

below_next : (k last next : ℕ) → next ≡ last + 1 → nat_lt k next ≡ nat_le k last
below_next k last next e = grind (arith, nat_tests)

pub returns : goal.returns
returns c = fun_ext (λ k. c.loop-c.invariant k ∙ ap (λ b. nat_le c.args.first k && b) (below_next k c.args.last c.loop-c.c
    (let room : c.args.first ≤ c.args.last + 1 = omega arith in let ends = c.loop-c.auto.c-end room in omega arith)))
