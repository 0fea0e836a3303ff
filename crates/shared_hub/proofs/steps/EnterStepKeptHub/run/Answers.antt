use Rattle.hub.specs.Answer.{kept, opened}
use Rattle.shared_hub.proofs.StepLemmas.{adds, adds_one, opens}
use Rattle.shared_hub.proofs.steps.EnterStepKeptHub.run.Goals as goal

pub returns-clause-adds : goal.returns-clause-adds
returns-clause-adds g c =
    let me = c.args.self.now in
    let held = c.held.inside in
    adds_one g.H.EventHub.view c.args.held.now held.first.value held.hub c.held.view_is c.enter.new.self me.caller (opened me.user.now me.repo.now me.want (kept c.enter.result)) c.enter.ensures.logs

pub returns-clause-relates : goal.returns-clause-relates
returns-clause-relates g c =
    let me = c.args.self.now in
    let held = c.held.inside in (
      adds g.H.EventHub.view c.args.held.now held.first.value held.hub c.held.view_is c.enter.new.self me.caller (opened me.user.now me.repo.now me.want (kept c.enter.result)) c.enter.ensures.logs c.enter.ensures.legal,
      opens g.H.EventHub.view c.args.held.now held.first.value held.hub c.held.view_is me.user.now me.repo.now me.want c.enter.new.self c.enter.result c.enter.ensures.answers,
    )
