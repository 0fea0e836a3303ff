use Rattle.std.proofs.Common.{subst, ◌++◌}
use Rattle.turn_lock.specs.Lock.{seen}
use Rattle.hub.specs.Answer.{looked}
use Rattle.hub.specs.Desk.{KeepsPins, Looks}
use Rattle.shared_hub.specs.Steps.{RunsLook}
use Rattle.shared_hub.specs.Desk.{desk_of}
use Rattle.shared_hub.proofs.TurnLemmas.{keeps_pins, looks}
use Rattle.shared_hub.proofs.desk.SharedDeskDesk.look.Goals as goal

pub returns-clause-answers : goal.returns-clause-answers
returns-clause-answers g c =
    let t = c.with_turn.ensures.turned in
    let old = c.self.inside.pass in
    let runs = subst (λ n. RunsLook n c.args.user.now (seen old ++ t.between) t.after c.with_turn.result) c.caller.ensures.number t.related in
    subst (λ p. Looks (desk_of p) (desk_of c.with_turn.new.pass) c.args.user.now c.with_turn.result) c.self.view_is
    (looks old c.with_turn.new.pass t.between t.after c.self.invariant.1.admin c.caller.ensures.own t.others c.args.user.now c.with_turn.result runs t.left)

pub returns-clause-keeps : goal.returns-clause-keeps
returns-clause-keeps g c =
    let t = c.with_turn.ensures.turned in
    let old = c.self.inside.pass in
    let runs = subst (λ n. RunsLook n c.args.user.now (seen old ++ t.between) t.after c.with_turn.result) c.caller.ensures.number t.related in
    subst (λ p. KeepsPins (desk_of p) (desk_of c.with_turn.new.pass)) c.self.view_is
    (keeps_pins old c.with_turn.new.pass t.between t.after c.self.invariant.1.admin c.caller.ensures.own t.others (looked c.args.user.now c.with_turn.result) runs.0 t.left)
