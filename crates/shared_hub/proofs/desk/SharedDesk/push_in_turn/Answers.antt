use Rattle.std.proofs.Common.{[], ap, append-nil, subst, ◌++◌, ◌∙◌}
use Rattle.std.specs.Prelude.{Some}
use Rattle.turn_lock.specs.Lock.{seen}
use Rattle.shared_hub.specs.Desk.{EndsTurn}
use Rattle.shared_hub.specs.Steps.{PushState, RunsOnce, RunsPushTurn}
use Rattle.shared_hub.proofs.TurnLemmas.{pushed_turn, turn_stays}
use Rattle.shared_hub.proofs.desk.SharedDesk.push_in_turn.Goals as goal

pub with_turn-requires-clause-knows : goal.with_turn-requires-clause-knows
with_turn-requires-clause-knows g c = ([], append-nil c.new-step.result.known ∙ ap (λ (s : PushState _). s.known) c.new-step.ensures)

pub invariant_of-self : goal.invariant_of-self
invariant_of-self g c =
    let t = c.in-Some.ensures.turned in
    let old = c.self.inside.pass in
    let once = subst (λ (s : PushState _). RunsOnce (RunsPushTurn s.caller) s.asked (seen old ++ t.between) t.after (Some c.in-Some.turn)) c.new-step.ensures t.related in
    let runs = subst (λ n. RunsPushTurn n c.args.asked (seen old ++ t.between) t.after c.in-Some.turn) c.caller.ensures.number once in (
      c.with_turn.ensures.same_pass.lock ∙ c.self.invariant.0,
      turn_stays old c.with_turn.new.pass t.between t.after c.self.invariant.1.admin c.self.invariant.1.legal c.args.asked c.in-Some.turn runs t.left,
    )

pub returns-clause-turn : goal.returns-clause-turn
returns-clause-turn g c =
    let t = c.in-Some.ensures.turned in
    let old = c.self.inside.pass in
    let once = subst (λ (s : PushState _). RunsOnce (RunsPushTurn s.caller) s.asked (seen old ++ t.between) t.after (Some c.in-Some.turn)) c.new-step.ensures t.related in
    let runs = subst (λ n. RunsPushTurn n c.args.asked (seen old ++ t.between) t.after c.in-Some.turn) c.caller.ensures.number once in
    subst (λ p. EndsTurn p c.with_turn.new.pass c.args.asked c.in-Some.turn) c.self.view_is
    (pushed_turn old c.with_turn.new.pass t.between t.after c.self.invariant.1.admin c.caller.ensures.own t.others c.args.asked c.in-Some.turn runs t.left)
