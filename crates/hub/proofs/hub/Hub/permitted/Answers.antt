use Rattle.std.proofs.Common.{List, Option, sym, ◌∙◌, ap, subst}
use Rattle.ref_store.specs.Refs.{Name}
use Rattle.wild_perms.specs.Roles.{WildView}
use Rattle.hub_history.specs.declared.entry.Event.{Event}
use Rattle.hub_history.specs.declared.entry.PermsKept.{PermsKept}
use Rattle.hub_history.specs.History.{history, step}
use Rattle.hub_history.specs.Laws.{IsDueBehind}
use Rattle.hub_history.specs.Conf.{AreInForce}
use Rattle.hub_history.specs.Roles.{is_declared}
use Rattle.hub_history.specs.State.{Conf, Repository, placed_in, wild_of}
use Rattle.hub.specs.Answer.{IsDueIn, permitted}
use Rattle.hub.specs.Asks.{Asks, put_of}
use Rattle.hub.specs.Hub.{state_of, stored}
use Rattle.hub.proofs.ChangeLemmas.{change_answers, change_due, change_step}
use Rattle.hub.proofs.hub.Hub.permitted.Goals as goal

pub commit-requires-clause-due : goal.commit-requires-clause-due
commit-requires-clause-due c =
    let asks = subst (λ (w : WildView). Asks w c.ask-answer.new.wild c.args.user.now c.is_declared-declared.result c.args.change c.ask-answer.result) (c.in_ok-wild.ensures ∙ c.wild-2.ensures ∙ ap wild_of c.in_ok-hosted.ensures.hosted) c.ask-answer.ensures in
    subst (λ (e : Event). IsDueBehind c.args.self.now.admin c.args.self.now.log e) (sym c.in_ok-event.ensures)
    (change_due c.args.self.now c.args.user.now c.args.repo.now c.ask-answer.new.wild c.is_declared-declared.result c.tell_names.ensures c.args.change c.tell_change.ensures c.requires.short (λ ps ok. (
      c.policy.result.now,
      subst (λ (conf : Conf). AreInForce ps conf c.policy.result.now) c.conf.ensures.conf (c.policy.ensures ps ok),
      c.is_declared-declared.ensures ps ok
          ∙ ap (λ (w : WildView). is_declared ps c.policy.result.now c.args.repo.now w.creator c.args.change) (c.wild.ensures ∙ ap wild_of c.in_ok-hosted.ensures.hosted),
    )) c.ask-answer.result c.in-Some.kept (sym c.kept_of.ensures ∙ c.in-Some.is) asks)

pub commit-requires-clause-step : goal.commit-requires-clause-step
commit-requires-clause-step c =
    let asks = subst (λ (w : WildView). Asks w c.ask-answer.new.wild c.args.user.now c.is_declared-declared.result c.args.change c.ask-answer.result) (c.in_ok-wild.ensures ∙ c.wild-2.ensures ∙ ap wild_of c.in_ok-hosted.ensures.hosted) c.ask-answer.ensures in
    let state = state_of c.args.self.now in
    ap (step (history c.args.self.now.admin c.args.self.now.log)) c.in_ok-event.ensures
    ∙ change_step c.args.self.now c.args.user.now c.args.repo.now c.ask-answer.new.wild c.is_declared-declared.result c.args.change c.ask-answer.result c.in-Some.kept (sym c.kept_of.ensures ∙ c.in-Some.is) asks
    ∙ ap (λ (l : List (Name × Repository)). stored (placed_in state.repositories l) state.conf)
    (sym (c.in_ok-changes.ensures ∙ ap (λ (r : Repository). put_of c.args.repo.now r c.ask-answer.new.wild c.in-Some.kept) c.in_ok-hosted.ensures.hosted))

pub returns-clause-due : goal.returns-clause-due
returns-clause-due c =
    let asks = subst (λ (w : WildView). Asks w c.ask-answer.new.wild c.args.user.now c.is_declared-declared.result c.args.change c.ask-answer.result) (c.in_ok-wild.ensures ∙ c.wild-2.ensures ∙ ap wild_of c.in_ok-hosted.ensures.hosted) c.ask-answer.ensures in
    subst (λ (k : Option PermsKept). IsDueIn c.args.self.now (permitted c.args.user.now c.args.repo.now c.args.change k)) (sym (sym c.kept_of.ensures ∙ c.in-Some.is))
    (change_due c.args.self.now c.args.user.now c.args.repo.now c.ask-answer.new.wild c.is_declared-declared.result c.tell_names.ensures c.args.change c.tell_change.ensures c.requires.short (λ ps ok. (
      c.policy.result.now,
      subst (λ (conf : Conf). AreInForce ps conf c.policy.result.now) c.conf.ensures.conf (c.policy.ensures ps ok),
      c.is_declared-declared.ensures ps ok
          ∙ ap (λ (w : WildView). is_declared ps c.policy.result.now c.args.repo.now w.creator c.args.change) (c.wild.ensures ∙ ap wild_of c.in_ok-hosted.ensures.hosted),
    )) c.ask-answer.result c.in-Some.kept (sym c.kept_of.ensures ∙ c.in-Some.is) asks)

pub returns-clause-answers : goal.returns-clause-answers
returns-clause-answers c =
    let asks = subst (λ (w : WildView). Asks w c.ask-answer.new.wild c.args.user.now c.is_declared-declared.result c.args.change c.ask-answer.result) (c.in_ok-wild.ensures ∙ c.wild-2.ensures ∙ ap wild_of c.in_ok-hosted.ensures.hosted) c.ask-answer.ensures in
    change_answers c.args.self.now c.args.user.now c.args.repo.now c.ask-answer.new.wild c.is_declared-declared.result c.args.change c.ask-answer.result asks
