use Rattle.std.proofs.Common.{ap, subst, sym}
use Rattle.std.specs.Prelude.{Some}
use mathlib.Core.List.{IsPrefix}
use Rattle.turn_lock.specs.Lock.{seen}
use Rattle.hub.specs.Answer.{AnswersPush, settled}
use Rattle.hub.specs.Hub.{HubView, Logs}
use Rattle.shared_hub.specs.Kept.{listed}
use Rattle.shared_hub.specs.declared.steps.PushTurn.TheVariants as turn
use Rattle.shared_hub.specs.Steps.{MayPushAny, PushState, RunsOnce, RunsPush, RunsPushTurn}
use Rattle.shared_hub.proofs.StepLemmas.{adds, adds_one, of_list, stands_in}
use Rattle.shared_hub.proofs.steps.PushStepKeptHub.run.Goals as goal

pub wild_to_judge-requires : goal.wild_to_judge-requires
wild_to_judge-requires g c =
    let asked = c.in-Some.asked in
    let known = seen c.self.inside.known.value in
    let held = c.held.inside in
    let kept = c.args.held.now in
    let may = subst (λ o. MayPushAny known o) (sym c.in-Some.ensures.value) c.self.invariant in
    let begins = subst (λ l. IsPrefix l (listed kept.first (g.H.EventHub.view kept.hub))) (sym (ap (λ (s : PushState _). s.known) c.self.view_is)) c.requires in
    stands_in g.H.EventHub.view kept held.first.value held.hub c.held.view_is known asked.pin may.admin begins may.stands

pub settle-pushed-requires-clause-stands : goal.settle-pushed-requires-clause-stands
settle-pushed-requires-clause-stands g c =
    let asked = c.in-Some.asked in
    let known = seen c.self.inside.known.value in
    let held = c.held.inside in
    let kept = c.args.held.now in
    let may = subst (λ o. MayPushAny known o) (sym c.in-Some.ensures.value) c.self.invariant in
    let begins = subst (λ l. IsPrefix l (listed kept.first (g.H.EventHub.view kept.hub))) (sym (ap (λ (s : PushState _). s.known) c.self.view_is)) c.requires in
    stands_in g.H.EventHub.view kept held.first.value held.hub c.held.view_is known asked.pin may.admin begins may.stands

pub returns-clause-adds : goal.returns-clause-adds
returns-clause-adds g c =
    let asked = c.in-Some.asked in
    let event = settled asked.pin asked.request.pack asked.request.commands asked.request.atomic c.settle-pushed.result in
    let caller = ap (λ (s : PushState _). s.caller) c.self.view_is in
    let held = c.held.inside in
    adds_one g.H.EventHub.view c.args.held.now held.first.value held.hub c.held.view_is c.settle-pushed.new.self c.args.self.now.caller event
    (subst (λ n. Logs (g.H.EventHub.view held.hub) (g.H.EventHub.view c.settle-pushed.new.self) n event) caller c.settle-pushed.ensures.logs)

pub returns-clause-relates : goal.returns-clause-relates
returns-clause-relates g c =
    let asked = c.in-Some.asked in
    let held = c.held.inside in
    let kept = c.args.held.now in
    let new = c.settle-pushed.new.self in
    let before = listed kept.first (g.H.EventHub.view kept.hub) in
    let after = listed held.first.value (g.H.EventHub.view new) in
    let event = settled asked.pin asked.request.pack asked.request.commands asked.request.atomic c.settle-pushed.result in
    let runs : RunsPush c.self.inside.caller asked before after c.settle-pushed.result = (
      adds g.H.EventHub.view kept held.first.value held.hub c.held.view_is new c.self.inside.caller event c.settle-pushed.ensures.logs c.settle-pushed.ensures.legal,
      of_list g.H.EventHub.view kept held.first.value held.hub c.held.view_is (λ (h : HubView). AnswersPush h asked.pin c.settle-pushed.result) c.settle-pushed.ensures.answers,
    ) in
    subst (λ (s : PushState _). RunsOnce (RunsPushTurn s.caller) s.asked before after (Some (turn.Settled c.settle-pushed.result))) c.self.view_is
    (subst (λ o. RunsOnce (RunsPushTurn c.self.inside.caller) o before after (Some (turn.Settled c.settle-pushed.result))) c.in-Some.ensures.value runs)
