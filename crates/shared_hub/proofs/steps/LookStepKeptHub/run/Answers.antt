use Rattle.hub.specs.Answer.{AnswersLook, looked}
use Rattle.shared_hub.proofs.StepLemmas.{adds, adds_one, of_list}
use Rattle.shared_hub.proofs.steps.LookStepKeptHub.run.Goals as goal

pub returns-clause-adds : goal.returns-clause-adds
returns-clause-adds g c =
    let me = c.args.self.now in
    let held = c.held.inside in
    adds_one g.H.EventHub.view c.args.held.now held.first.value held.hub c.held.view_is c.look.new.self me.caller (looked me.user.now c.look.result) c.look.ensures.logs

pub returns-clause-relates : goal.returns-clause-relates
returns-clause-relates g c =
    let me = c.args.self.now in
    let held = c.held.inside in (
      adds g.H.EventHub.view c.args.held.now held.first.value held.hub c.held.view_is c.look.new.self me.caller (looked me.user.now c.look.result) c.look.ensures.logs c.look.ensures.legal,
      of_list g.H.EventHub.view c.args.held.now held.first.value held.hub c.held.view_is (λ h. AnswersLook h me.user.now c.look.result) c.look.ensures.answers,
    )
