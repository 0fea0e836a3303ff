use Rattle.std.proofs.Common.{subst}
use Rattle.hub_history.specs.Push.{HasWholeRefs}
use Rattle.hub_history.specs.State.{repository_at}
use Rattle.hub_history.proofs.WholeLogs.{whole_at}
use Rattle.hub.specs.Hub.{HubView, state_of}
use Rattle.hub.proofs.hub.Hub.hosted.Goals as goal

pub returns-in_err-clone-in-Some-clause-whole : goal.returns-in_err-clone-in-Some-clause-whole
returns-in_err-clone-in-Some-clause-whole c =
    subst (λ (v : HubView). HasWholeRefs (repository_at (state_of v) c.args.name.now)) c.self.view_is
    (whole_at c.some_patterns_are_true.ensures.0 c.some_patterns_are_true.ensures.1 c.self.inside.conf.admin c.self.inside.log c.self.invariant.0 c.args.name.now)

pub returns-in_ok-clone-in-Some-clause-whole : goal.returns-in_ok-clone-in-Some-clause-whole
returns-in_ok-clone-in-Some-clause-whole c =
    subst (λ (v : HubView). HasWholeRefs (repository_at (state_of v) c.args.name.now)) c.self.view_is
    (whole_at c.some_patterns_are_true.ensures.0 c.some_patterns_are_true.ensures.1 c.self.inside.conf.admin c.self.inside.log c.self.invariant.0 c.args.name.now)

pub returns-in-None-clause-whole : goal.returns-in-None-clause-whole
returns-in-None-clause-whole c =
    subst (λ (v : HubView). HasWholeRefs (repository_at (state_of v) c.args.name.now)) c.self.view_is
    (whole_at c.some_patterns_are_true.ensures.0 c.some_patterns_are_true.ensures.1 c.self.inside.conf.admin c.self.inside.log c.self.invariant.0 c.args.name.now)
