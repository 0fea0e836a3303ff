use Rattle.std.proofs.Common.{arith, sym, map, drop}
use Rattle.refex.specs.Items.{placed_of}
use Rattle.refex.specs.Faults.{first_fault}
use Rattle.refex.specs.declared.items.Last.TheVariants as last
use Rattle.refex.proofs.FirstFault.{begun, stop_outer, stop_at, on_at, end_outer, end_none, depth_bound}
use Rattle.refex.proofs.offences.first_fault.Goals as goal

pub loop-i-init : goal.loop-i-init
loop-i-init c = record { few = omega arith; rest = begun (map placed_of c.args.tokens.now) last.Nothing 0 }

pub returns-then-closes-before : goal.returns-then-closes-before
returns-then-closes-before c =
    stop_outer (first_fault last.Nothing 0 (map placed_of c.args.tokens.now)) c.loop-i.before.last c.loop-i.before.depth c.loop-i.before.outermost
    (drop c.loop-i.i (map placed_of c.args.tokens.now)) (rw c.closes.ensures at c.if-closes-before.true) c.loop-i.invariant.rest

pub returns-in-Some : goal.returns-in-Some
returns-in-Some c =
    stop_at c.args.tokens.now c.loop-i.i c.index-tokens-i.result (first_fault last.Nothing 0 (map placed_of c.args.tokens.now)) c.loop-i.before.last c.loop-i.before.depth c.loop-i.before.outermost
    c.in-Some.fault c.index-tokens-i.is c.loop-i-test.true (sym c.in-Some.ensures) (rw c.closes.ensures at c.if-closes-before.false) c.loop-i.invariant.rest

pub loop-i-preserved : goal.loop-i-preserved
loop-i-preserved c = record {
  few = let b = depth_bound c.loop-i.before.depth c.after-before.result.depth _ c.after-before.ensures.depth in omega arith;
  rest = on_at c.args.tokens.now c.loop-i.i c.index-tokens-i.result (first_fault last.Nothing 0 (map placed_of c.args.tokens.now)) c.loop-i.before.last c.after-before.result.last
      c.loop-i.before.depth c.after-before.result.depth c.loop-i.before.outermost c.after-before.result.outermost c.index-tokens-i.is c.loop-i-test.true (sym c.in-None.ensures)
      c.after-before.ensures.last c.after-before.ensures.depth c.after-before.ensures.outermost c.loop-i.invariant.rest;
}

pub returns-then-before-gt0 : goal.returns-then-before-gt0
returns-then-before-gt0 c =
    end_outer c.args.tokens.now c.loop-i.i (first_fault last.Nothing 0 (map placed_of c.args.tokens.now)) c.loop-i.before.last c.loop-i.before.depth c.loop-i.before.outermost
    (omega arith) c.if-before-gt0.true c.loop-i.invariant.rest

pub returns : goal.returns
returns c =
    end_none c.args.tokens.now c.loop-i.i (first_fault last.Nothing 0 (map placed_of c.args.tokens.now)) c.loop-i.before.last c.loop-i.before.depth c.loop-i.before.outermost
    (omega arith) (omega arith) c.loop-i.invariant.rest
