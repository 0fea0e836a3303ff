use Rattle.std.proofs.Common.{arith, refl, false, length, take, ◌≡◌, inl, inr}
use Rattle.std.proofs.lemmas.Bool.{both_ways, cases_Bool}
use Rattle.refex.proofs.Matching.{begun, more, exit_at, whole_text, marked, none_more, yes_early, yes_late, never, dead_starts}
use Rattle.refex.proofs.machine.Machine.takes_front.Goals as goal

pub loop-byte-init : goal.loop-byte-init
loop-byte-init c = record {
  tracks = begun c.args.self.now.masks.items c.args.self.now.follow.items c.args.name.now c.args.self.now.holes c.args.self.now.after c.args.self.now.first
      c.args.self.now.beyond c.start-state.result.set c.start-state.result.parts c.start-state.ensures.parts c.start-state.ensures.closed c.start-state.ensures.set;
  none = λ k small. absurd (omega arith);
}

pub returns-then-has : goal.returns-then-has
returns-then-has c = λ p m. (
  λ yes. yes_early c.args.self.now.masks.items c.args.self.now.follow.items c.args.name.now c.args.self.now.holes c.args.self.now.after c.args.self.now.first
      c.args.self.now.beyond p m c.args.text.now c.loop-byte.byte-index
      ((exit_at c.args.self.now.masks.items c.args.self.now.follow.items c.args.name.now c.args.self.now.holes c.args.self.now.after c.args.self.now.first
      c.args.self.now.beyond (take c.loop-byte.byte-index c.args.text.now) c.loop-byte.state.set c.loop-byte.state.parts c.loop-byte.invariant.tracks).0 (c.has.ensures.0 c.if-has.true)),
  λ s. refl,
)

pub loop-byte-preserved : goal.loop-byte-preserved
loop-byte-preserved c = record {
  tracks = more c.args.self.now.masks.items c.args.self.now.follow.items c.args.name.now c.args.self.now.holes c.args.self.now.after c.args.self.now.first
      c.args.self.now.beyond c.args.text.now c.loop-byte.byte-index c.loop-byte.state.set c.loop-byte.state.parts c.step-state.result.set c.step-state.result.parts
      c.loop-byte-test.true (omega (arith, c.type_inv.text c.loop-byte.byte-index)) c.step-state.ensures c.loop-byte.invariant.tracks;
  none = none_more c.args.self.now.masks.items c.args.self.now.follow.items c.args.name.now c.args.self.now.holes c.args.self.now.after c.args.self.now.first
      c.args.self.now.beyond c.args.text.now c.loop-byte.byte-index c.loop-byte.state.set c.loop-byte.state.parts c.loop-byte.invariant.tracks
      (λ h. both_ways c.has.result c.if-has.false (c.has.ensures.1 h)) c.loop-byte.invariant.none;
}

pub returns-then-has-2 : goal.returns-then-has-2
returns-then-has-2 c = λ p m. (
  λ yes. yes_early c.args.self.now.masks.items c.args.self.now.follow.items c.args.name.now c.args.self.now.holes c.args.self.now.after c.args.self.now.first
      c.args.self.now.beyond p m c.args.text.now c.loop-byte.byte-index
      ((exit_at c.args.self.now.masks.items c.args.self.now.follow.items c.args.name.now c.args.self.now.holes c.args.self.now.after c.args.self.now.first
      c.args.self.now.beyond (take c.loop-byte.byte-index c.args.text.now) c.loop-byte.state.set c.loop-byte.state.parts c.loop-byte.invariant.tracks).0 (c.has-2.ensures.0 c.if-has-2.true)),
  λ s. refl,
)

pub returns : goal.returns
returns c = λ p m.
    let over : c.loop-byte.byte-index ≡ length c.args.text.now = omega arith in
    let none = none_more c.args.self.now.masks.items c.args.self.now.follow.items c.args.name.now c.args.self.now.holes c.args.self.now.after c.args.self.now.first
    c.args.self.now.beyond c.args.text.now c.loop-byte.byte-index c.loop-byte.state.set c.loop-byte.state.parts c.loop-byte.invariant.tracks
    (λ h. both_ways c.has-2.result c.if-has-2.false (c.has-2.ensures.1 h)) c.loop-byte.invariant.none in
    let last = exit_at c.args.self.now.masks.items c.args.self.now.follow.items c.args.name.now c.args.self.now.holes c.args.self.now.after c.args.self.now.first
    c.args.self.now.beyond _ _ _
    (marked c.args.self.now.masks.items c.args.self.now.follow.items c.args.name.now c.args.self.now.holes c.args.self.now.after c.args.self.now.first
    c.args.self.now.beyond c.args.text.now c.loop-byte.state.set c.loop-byte.state.parts c.step-last.result.set c.step-last.result.parts c.step-last.ensures
    (whole_text c.args.self.now.masks.items c.args.self.now.follow.items c.args.name.now c.args.self.now.holes c.args.self.now.after c.args.self.now.first
    c.args.self.now.beyond c.args.text.now c.loop-byte.byte-index c.loop-byte.state.set c.loop-byte.state.parts (omega arith) c.loop-byte.invariant.tracks)) in (
      λ yes. yes_late c.args.self.now.masks.items c.args.self.now.follow.items c.args.name.now c.args.self.now.holes c.args.self.now.after c.args.self.now.first
          c.args.self.now.beyond p m c.args.text.now (last.0 (c.has-3.ensures.0 yes)),
      λ s. elim (cases_Bool c.has-3.result) [
        | inl met ↦ met
        | inr out ↦ absurd (never c.args.self.now.masks.items c.args.self.now.follow.items c.args.name.now c.args.self.now.holes c.args.self.now.after c.args.self.now.first
            c.args.self.now.beyond p m c.args.text.now (rw over at none) (λ r. both_ways c.has-3.result out (c.has-3.ensures.1 (last.1 r))) s)
      ],
    )

pub returns-then-is_dead : goal.returns-then-is_dead
returns-then-is_dead c = λ p m. (
  λ yes. absurd (both_ways false refl yes),
  λ s. absurd (dead_starts c.args.self.now.masks.items c.args.self.now.follow.items c.args.name.now c.args.self.now.holes c.args.self.now.after c.args.self.now.first
      c.args.self.now.beyond p m c.args.text.now c.loop-byte.byte-index c.loop-byte.state.set c.loop-byte.state.parts (c.is_dead.ensures.0 c.if-is_dead.true)
      c.loop-byte.invariant.tracks
      c.loop-byte.invariant.none s),
)
