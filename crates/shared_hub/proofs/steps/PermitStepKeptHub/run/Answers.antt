use Rattle.std.proofs.Common.{subst}
use Rattle.std.specs.Prelude.{Some}
use Rattle.hub_history.specs.Roles.{kept_of}
use Rattle.hub.specs.Answer.{AnswersChange, permitted}
use Rattle.shared_hub.specs.Kept.{listed}
use Rattle.shared_hub.specs.Steps.{RunsChange, RunsOnce}
use Rattle.shared_hub.proofs.StepLemmas.{adds, adds_one, of_list}
use Rattle.shared_hub.proofs.steps.PermitStepKeptHub.run.Goals as goal

pub returns-clause-adds : goal.returns-clause-adds
returns-clause-adds g c =
    let me = c.args.self.now in
    let held = c.held.inside in
    adds_one g.H.EventHub.view c.args.held.now held.first.value held.hub c.held.view_is c.permit.new.self me.caller (permitted me.user.now me.repo.now c.in-Some.change (kept_of c.permit.result)) c.permit.ensures.logs

pub returns-clause-relates : goal.returns-clause-relates
returns-clause-relates g c =
    let me = c.args.self.now in
    let held = c.held.inside in
    let kept = c.args.held.now in
    subst (λ o. RunsOnce (RunsChange me.caller me.user.now me.repo.now) o (listed kept.first (g.H.EventHub.view kept.hub)) (listed held.first.value (g.H.EventHub.view c.permit.new.self)) (Some c.permit.result)) c.in-Some.ensures.value (
      adds g.H.EventHub.view kept held.first.value held.hub c.held.view_is c.permit.new.self me.caller (permitted me.user.now me.repo.now c.in-Some.change (kept_of c.permit.result)) c.permit.ensures.logs c.permit.ensures.legal,
      of_list g.H.EventHub.view kept held.first.value held.hub c.held.view_is (λ h. AnswersChange h me.repo.now c.permit.result) c.permit.ensures.answers,
    )
