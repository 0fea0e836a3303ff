use Rattle.std.proofs.Common.{◌<◌, ◌∙◌, ap, arith, subst, sym}
use Rattle.std.specs.Prelude.{Contains}
use Rattle.turn_lock.proofs.RuleKept.{splits}
use Rattle.turn_lock.proofs.lock.TurnLock.split.Goals as goal

pub split_seat-requires : goal.split_seat-requires
split_seat-requires g c =
    let seat = c.pass.inside.seat in
    let v = seat.me.0 in
    let words : 0 < c.self.inside.table.shared.table_id.words = omega (arith, c.self.invariant.0) in
    let zero : Contains v.knowledge.numbers.value 0 = subst (λ n. Contains v.knowledge.numbers.value n) (ap (λ p. p.caller) c.pass.view_is ∙ c.requires.first) c.pass.invariant.own in
    (ap (λ p. p.lock) c.pass.view_is ∙ (c.requires.of_lock ∙ sym c.self.view_is), words, splits g.T.Kept.entries g.T.Kept.caller seat.id v c.pass.invariant.idle zero)
