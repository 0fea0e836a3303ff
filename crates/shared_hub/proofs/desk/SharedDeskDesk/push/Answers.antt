use Rattle.std.proofs.Common.{[], ap, subst, ◌∙◌}
use Rattle.hub.specs.Desk.{KeepsPins}
use Rattle.shared_hub.specs.declared.steps.Asked.{Asked}
use Rattle.shared_hub.specs.Desk.{desk_of}
use Rattle.shared_hub.proofs.desk.SharedDeskDesk.push.Goals as goal

pub returns-in-Settled-clause-keeps : goal.returns-in-Settled-clause-keeps
returns-in-Settled-clause-keeps g c = subst (λ p. KeepsPins (desk_of p) (desk_of c.push_in_turn.new.self)) c.loop.invariant.self c.in-Settled.ensures.turn.1

pub returns-then-is_err-clause-answers : goal.returns-then-is_err-clause-answers
returns-then-is_err-clause-answers g c =
    let turn = c.in-Again.ensures.turn in
    ([], ap desk_of (turn.0 ∙ c.loop.invariant.self), ap (λ (a : Asked). a.pin) c.judge_again.ensures.same ∙ ap (λ (a : Asked). a.pin) turn.1 ∙ c.loop.invariant.pin)
