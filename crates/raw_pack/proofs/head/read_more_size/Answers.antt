use Rattle.std.proofs.Common.{◌≡◌, ◌*◌, ◌+◌, ◌-◌, ◌%◌, ◌<◌, suc, true, false, ◌∙◌, ap, arith, Err, rules}
use Rattle.pktline_core.proofs.LinkLemmas.{later_more, writing_more}
use Rattle.raw_pack.specs.Packs.{is_too_large}
use Rattle.raw_pack.proofs.HeadLemmas.{size_below, unit_more, size_cut, size_zero, size_more, size_large, size_last, size_endless}
use Rattle.raw_pack.proofs.head.read_more_size.Goals as goal

pub returns-in_err-next-clause-reads : goal.returns-in_err-next-clause-reads
returns-in_err-next-clause-reads g c =
    let answer : c.from_residual.result ≡ Err c.in_err-next.field-0.0 = search rules in
    rw answer (size_cut _ _ _ _ _ _ _ _ _ _ c.loop-left.left (c.loop-left.left - 1) _ _ (omega arith) c.loop-left.invariant.leaves c.in_err-next.field-0.0 c.loop-left.invariant.later c.in_err-next.ensures.reads)

pub returns-then-next-eq0-clause-reads : goal.returns-then-next-eq0-clause-reads
returns-then-next-eq0-clause-reads g c =
    size_zero _ _ _ _ _ _ _ _ _ _ c.loop-left.left (c.loop-left.left - 1) _ _ (omega arith) c.loop-left.invariant.leaves c.loop-left.invariant.later
    (rw c.if-next-eq0.true at c.in_ok-next.ensures.reads)

pub overflow_mul-size : goal.overflow_mul-size
overflow_mul-size g c =
    let bits : c.from.result < 128 = omega (arith, c.from.ensures) in
    let below = size_below (c.loop-left.left - 1) c.loop-left.unit c.loop-left.size c.from.result (c.loop-left.invariant.unit (c.loop-left.left - 1) (omega arith)) bits c.loop-left.invariant.size in
    omega (arith, below.0, below.1)

pub overflow_add-size : goal.overflow_add-size
overflow_add-size g c =
    let bits : c.from.result < 128 = omega (arith, c.from.ensures) in
    let below = size_below (c.loop-left.left - 1) c.loop-left.unit c.loop-left.size c.from.result (c.loop-left.invariant.unit (c.loop-left.left - 1) (omega arith)) bits c.loop-left.invariant.size in
    omega (arith, below.0, below.1)

pub overflow_mul-unit : goal.overflow_mul-unit
overflow_mul-unit g c =
    let bits : c.from.result < 128 = omega (arith, c.from.ensures) in
    let below = size_below (c.loop-left.left - 1) c.loop-left.unit c.loop-left.size c.from.result (c.loop-left.invariant.unit (c.loop-left.left - 1) (omega arith)) bits c.loop-left.invariant.size in
    omega (arith, below.1)

pub returns-then-too_large-clause-reads : goal.returns-then-too_large-clause-reads
returns-then-too_large-clause-reads g c =
    let part : c.from.result ≡ c.in_ok-next.next % 128 = cc in
    let large : is_too_large c.args.sum (c.loop-left.size + c.loop-left.unit * c.from.result) ≡ true = cc in
    size_large _ _ _ _ _ _ _ _ _ _ c.loop-left.left (c.loop-left.left - 1) _ _ (omega arith) c.loop-left.invariant.leaves c.in_ok-next.next (omega arith) (omega arith) (rw part at large)
    c.loop-left.invariant.later c.in_ok-next.ensures.reads

pub returns-then-next-lt128-clause-reads : goal.returns-then-next-lt128-clause-reads
returns-then-next-lt128-clause-reads g c =
    let part : c.from.result ≡ c.in_ok-next.next % 128 = cc in
    let small : is_too_large c.args.sum (c.loop-left.size + c.loop-left.unit * c.from.result) ≡ false = cc in
    rw part
    (size_last _ _ _ _ _ _ _ _ _ _ c.loop-left.left (c.loop-left.left - 1) _ _ (omega arith) c.loop-left.invariant.leaves c.in_ok-next.next (omega arith) (omega arith) (rw part at small)
    c.loop-left.invariant.later c.in_ok-next.ensures.reads)

pub loop-left-preserved : goal.loop-left-preserved
loop-left-preserved g c =
    let part : c.from.result ≡ c.in_ok-next.next % 128 = cc in
    let bits : c.from.result < 128 = omega arith in
    let below = size_below (c.loop-left.left - 1) c.loop-left.unit c.loop-left.size c.from.result (c.loop-left.invariant.unit (c.loop-left.left - 1) (omega arith)) bits c.loop-left.invariant.size in
    record {
      leaves = rw part (size_more _ _ _ _ _ _ _ _ _ _ c.loop-left.left (c.loop-left.left - 1) _ _ (omega arith) c.loop-left.invariant.leaves c.in_ok-next.next (omega arith) c.in_ok-next.ensures.reads);
      tells = c.in_ok-next.ensures.tells ∙ c.loop-left.invariant.tells;
      writing = writing_more _ _ _ c.loop-left.invariant.writing c.take_byte.ensures.writing;
      later = later_more _ _ _ c.loop-left.invariant.later c.take_byte.ensures.later;
      few = omega (arith, c.loop-left.invariant.few);
      unit = λ more is. ap (λ n. n * 128) (c.loop-left.invariant.unit (suc more) (omega arith)) ∙ unit_more more (omega (arith, c.loop-left.invariant.few));
      size = below.0;
    }

pub returns-clause-reads : goal.returns-clause-reads
returns-clause-reads g c = size_endless _ _ _ _ _ _ _ _ c.loop-left.left _ _ (omega arith) c.loop-left.invariant.leaves c.loop-left.invariant.later
