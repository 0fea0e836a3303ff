use Rattle.std.proofs.Common.{arith, refl, false, inl}
use Rattle.std.proofs.lemmas.Bool.{both_ways}
use Rattle.refex.proofs.Matching.{begun, more, exit_at, whole_text, marked, whole_iff, dead_whole, Means-reaches}
use Rattle.refex.proofs.machine.Machine.takes_text.Goals as goal

pub loop-byte-init : goal.loop-byte-init
loop-byte-init c = begun c.args.self.now.masks.items c.args.self.now.follow.items c.args.name.now c.args.self.now.holes c.args.self.now.after c.args.self.now.first
    c.args.self.now.beyond c.start-state.result.set c.start-state.result.parts c.start-state.ensures.parts c.start-state.ensures.closed c.start-state.ensures.set

pub loop-byte-preserved : goal.loop-byte-preserved
loop-byte-preserved c = more c.args.self.now.masks.items c.args.self.now.follow.items c.args.name.now c.args.self.now.holes c.args.self.now.after c.args.self.now.first
    c.args.self.now.beyond c.args.text.now c.loop-byte.byte-index c.loop-byte.state.set c.loop-byte.state.parts c.step-state.result.set c.step-state.result.parts
    c.loop-byte-test.true (omega (arith, c.type_inv.text c.loop-byte.byte-index)) c.step-state.ensures c.loop-byte.invariant

pub returns-then-has : goal.returns-then-has
returns-then-has c = λ p m. (
  λ yes. inl ((Means-reaches c.args.self.now.masks.items c.args.self.now.follow.items c.args.self.now.first c.args.self.now.holes p c.args.name.now c.args.text.now m).0
      ((exit_at c.args.self.now.masks.items c.args.self.now.follow.items c.args.name.now c.args.self.now.holes c.args.self.now.after c.args.self.now.first
      c.args.self.now.beyond c.args.text.now c.loop-byte.state.set c.loop-byte.state.parts
      (whole_text c.args.self.now.masks.items c.args.self.now.follow.items c.args.name.now c.args.self.now.holes c.args.self.now.after c.args.self.now.first
      c.args.self.now.beyond c.args.text.now c.loop-byte.byte-index c.loop-byte.state.set c.loop-byte.state.parts (omega arith) c.loop-byte.invariant)).0 (c.has.ensures.0 c.if-has.true))),
  λ s. refl,
)

pub returns : goal.returns
returns c = λ p m.
    let here = whole_text c.args.self.now.masks.items c.args.self.now.follow.items c.args.name.now c.args.self.now.holes c.args.self.now.after c.args.self.now.first
    c.args.self.now.beyond c.args.text.now c.loop-byte.byte-index c.loop-byte.state.set c.loop-byte.state.parts (omega arith) c.loop-byte.invariant in
    let first = exit_at c.args.self.now.masks.items c.args.self.now.follow.items c.args.name.now c.args.self.now.holes c.args.self.now.after c.args.self.now.first
    c.args.self.now.beyond _ _ _ here in
    let last = exit_at c.args.self.now.masks.items c.args.self.now.follow.items c.args.name.now c.args.self.now.holes c.args.self.now.after c.args.self.now.first
    c.args.self.now.beyond _ _ _
    (marked c.args.self.now.masks.items c.args.self.now.follow.items c.args.name.now c.args.self.now.holes c.args.self.now.after c.args.self.now.first
    c.args.self.now.beyond c.args.text.now c.loop-byte.state.set c.loop-byte.state.parts c.step-last.result.set c.step-last.result.parts c.step-last.ensures here) in
    whole_iff c.args.self.now.masks.items c.args.self.now.follow.items c.args.name.now c.args.self.now.holes c.args.self.now.after c.args.self.now.first
    c.args.self.now.beyond p m c.args.text.now c.has-2.result
    (λ r. both_ways c.has.result c.if-has.false (c.has.ensures.1 (first.1 r)))
    (λ yes. last.0 (c.has-2.ensures.0 yes), λ r. c.has-2.ensures.1 (last.1 r))

pub returns-then-is_dead : goal.returns-then-is_dead
returns-then-is_dead c = λ p m. (
  λ yes. absurd (both_ways false refl yes),
  λ w. absurd (dead_whole c.args.self.now.masks.items c.args.self.now.follow.items c.args.name.now c.args.self.now.holes c.args.self.now.after c.args.self.now.first
      c.args.self.now.beyond p m c.args.text.now c.loop-byte.byte-index c.loop-byte.state.set c.loop-byte.state.parts (c.is_dead.ensures.0 c.if-is_dead.true)
      c.loop-byte.invariant w),
)
