use Rattle.std.proofs.Common.{◌≡◌, sym, ◌∙◌, ap, subst}
use Rattle.std.specs.Prelude.{Option, Some, None}
use Rattle.std.specs.Option.{option_copied}
use Rattle.std.specs.FinMap.{get}
use Rattle.hub_history.specs.Conf.{AreInForce}
use Rattle.hub_history.specs.Opening.{answer_by}
use Rattle.hub_history.specs.State.{Conf, Repository}
use Rattle.hub.specs.Hub.{state_of}
use Rattle.hub.proofs.hub.Hub.answer_to.Goals as goal

pub returns-in-Some : goal.returns-in-Some
returns-in-Some c = λ ps ok.
    let state = state_of c.args.self.now in
    let there : Some c.in-Some.hosted.now ≡ get state.repositories c.args.repo.now = ap option_copied (sym c.in-Some.is) ∙ c.hosted_at.ensures in (
      c.tell_names.ensures,
      (
        c.policy-policy.result.now,
        subst (λ (conf : Conf). AreInForce ps conf c.policy-policy.result.now) c.conf.ensures.conf (c.policy-policy.ensures ps ok),
        c.answer_there.ensures ps ok ∙ ap (λ (o : Option Repository). answer_by ps c.policy-policy.result.now o c.args.user.now c.args.repo.now c.args.want) there,
      ),
    )

pub returns-in-None : goal.returns-in-None
returns-in-None c = λ ps ok.
    let state = state_of c.args.self.now in
    let there : None ≡ get state.repositories c.args.repo.now = ap option_copied (sym c.in-None.is) ∙ c.hosted_at.ensures in (
      c.tell_names.ensures,
      (
        c.policy-policy.result.now,
        subst (λ (conf : Conf). AreInForce ps conf c.policy-policy.result.now) c.conf.ensures.conf (c.policy-policy.ensures ps ok),
        c.answer_unborn.ensures ps ok ∙ ap (λ (o : Option Repository). answer_by ps c.policy-policy.result.now o c.args.user.now c.args.repo.now c.args.want) there,
      ),
    )
