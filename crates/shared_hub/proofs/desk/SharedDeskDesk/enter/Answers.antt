use Rattle.std.proofs.Common.{subst, ◌++◌, ◌∙◌}
use Rattle.turn_lock.specs.Lock.{seen}
use Rattle.hub.specs.Answer.{kept, opened}
use Rattle.hub.specs.Desk.{Enters, KeepsPins}
use Rattle.shared_hub.specs.Steps.{RunsOpening}
use Rattle.shared_hub.specs.Desk.{desk_of}
use Rattle.shared_hub.proofs.TurnLemmas.{enters, keeps_pins, stays_pass}
use Rattle.shared_hub.proofs.desk.SharedDeskDesk.enter.Goals as goal

pub invariant_of-self : goal.invariant_of-self
invariant_of-self g c =
    let t = c.with_turn.ensures.turned in
    let old = c.self.inside.pass in
    let runs = subst (λ n. RunsOpening n c.args.user.now c.args.repo.now c.args.want (seen old ++ t.between) t.after c.with_turn.result) c.caller.ensures.number t.related in (
      c.with_turn.ensures.same_pass.lock ∙ c.self.invariant.0,
      stays_pass old c.with_turn.new.pass t.between t.after c.self.invariant.1.admin c.self.invariant.1.legal (opened c.args.user.now c.args.repo.now c.args.want (kept c.with_turn.result)) runs.0 t.left,
    )

pub returns-clause-answers : goal.returns-clause-answers
returns-clause-answers g c =
    let t = c.with_turn.ensures.turned in
    let old = c.self.inside.pass in
    let runs = subst (λ n. RunsOpening n c.args.user.now c.args.repo.now c.args.want (seen old ++ t.between) t.after c.with_turn.result) c.caller.ensures.number t.related in
    subst (λ p. Enters (desk_of p) (desk_of c.with_turn.new.pass) c.args.user.now c.args.repo.now c.args.want c.with_turn.result) c.self.view_is
    (enters old c.with_turn.new.pass t.between t.after c.self.invariant.1.admin c.caller.ensures.own t.others c.args.user.now c.args.repo.now c.args.want c.with_turn.result runs t.left)

pub returns-clause-keeps : goal.returns-clause-keeps
returns-clause-keeps g c =
    let t = c.with_turn.ensures.turned in
    let old = c.self.inside.pass in
    let runs = subst (λ n. RunsOpening n c.args.user.now c.args.repo.now c.args.want (seen old ++ t.between) t.after c.with_turn.result) c.caller.ensures.number t.related in
    subst (λ p. KeepsPins (desk_of p) (desk_of c.with_turn.new.pass)) c.self.view_is
    (keeps_pins old c.with_turn.new.pass t.between t.after c.self.invariant.1.admin c.caller.ensures.own t.others (opened c.args.user.now c.args.repo.now c.args.want (kept c.with_turn.result)) runs.0 t.left)
