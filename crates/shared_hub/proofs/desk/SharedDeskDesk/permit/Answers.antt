use Rattle.std.proofs.Common.{subst, ◌++◌, ◌∙◌}
use Rattle.turn_lock.specs.Lock.{seen}
use Rattle.hub_history.specs.Roles.{kept_of}
use Rattle.hub.specs.Answer.{permitted}
use Rattle.hub.specs.Desk.{KeepsPins, Permits}
use Rattle.shared_hub.specs.Steps.{RunsChange}
use Rattle.shared_hub.specs.Desk.{desk_of}
use Rattle.shared_hub.proofs.TurnLemmas.{keeps_pins, permits, stays_pass}
use Rattle.shared_hub.proofs.desk.SharedDeskDesk.permit.Goals as goal

pub invariant_of-self : goal.invariant_of-self
invariant_of-self g c =
    let t = c.in-Some.ensures.turned in
    let old = c.self.inside.pass in
    let runs = subst (λ n. RunsChange n c.args.user.now c.args.repo.now c.args.change (seen old ++ t.between) t.after c.in-Some.permitted) c.caller.ensures.number t.related in (
      c.with_turn.ensures.same_pass.lock ∙ c.self.invariant.0,
      stays_pass old c.with_turn.new.pass t.between t.after c.self.invariant.1.admin c.self.invariant.1.legal (permitted c.args.user.now c.args.repo.now c.args.change (kept_of c.in-Some.permitted)) runs.0 t.left,
    )

pub returns-clause-answers : goal.returns-clause-answers
returns-clause-answers g c =
    let t = c.in-Some.ensures.turned in
    let old = c.self.inside.pass in
    let runs = subst (λ n. RunsChange n c.args.user.now c.args.repo.now c.args.change (seen old ++ t.between) t.after c.in-Some.permitted) c.caller.ensures.number t.related in
    subst (λ p. Permits (desk_of p) (desk_of c.with_turn.new.pass) c.args.user.now c.args.repo.now c.args.change c.in-Some.permitted) c.self.view_is
    (permits old c.with_turn.new.pass t.between t.after c.self.invariant.1.admin c.caller.ensures.own t.others c.args.user.now c.args.repo.now c.args.change c.in-Some.permitted runs t.left)

pub returns-clause-keeps : goal.returns-clause-keeps
returns-clause-keeps g c =
    let t = c.in-Some.ensures.turned in
    let old = c.self.inside.pass in
    let runs = subst (λ n. RunsChange n c.args.user.now c.args.repo.now c.args.change (seen old ++ t.between) t.after c.in-Some.permitted) c.caller.ensures.number t.related in
    subst (λ p. KeepsPins (desk_of p) (desk_of c.with_turn.new.pass)) c.self.view_is
    (keeps_pins old c.with_turn.new.pass t.between t.after c.self.invariant.1.admin c.caller.ensures.own t.others (permitted c.args.user.now c.args.repo.now c.args.change (kept_of c.in-Some.permitted)) runs.0 t.left)
