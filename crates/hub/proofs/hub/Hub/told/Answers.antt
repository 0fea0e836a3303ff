use Rattle.std.proofs.Common.{◌≡◌, List, Option, sym, ◌∙◌, ap, subst}
use Rattle.ref_store.specs.Refs.{Name}
use Rattle.hub_history.specs.declared.outcome.Outcome.{Outcome}
use Rattle.hub_history.specs.Push.{JudgesAllAtPush}
use Rattle.hub_history.specs.State.{InForce, in_force, repository_at, wild_of}
use Rattle.hub_history.proofs.JudgeLemmas.{unchanged}
use Rattle.hub_state.specs.Prepared.{PackView}
use Rattle.push_judging.specs.Judged.{AreTold, IsJudgement, confs_of}
use Rattle.hub.proofs.AgainLemmas.{again_told}
use Rattle.hub.specs.Hub.{state_of}
use Rattle.hub.proofs.hub.Hub.told.Goals as goal

pub returns-then-stands_as_opened-clause-told : goal.returns-then-stands_as_opened-clause-told
returns-then-stands_as_opened-clause-told c =
    let pinned = c.args.pin.now.pinned in
    let pack = c.args.request.now.pack in
    let commands = c.args.request.now.commands in
    let force : InForce = in_force (state_of c.args.self.now) pinned.repo in
    record {
      outcomes_are = λ ps ok.
          subst (λ (os : List (Option Outcome)). JudgesAllAtPush ps force pinned pack commands os) (sym c.into_parts.ensures.outcomes)
          (unchanged ps force pinned pack commands c.args.judged.outcomes (c.stands_as_opened.ensures c.if-stands_as_opened.true) (c.requires.judged.outcomes ps ok));
      confs_are = c.into_parts.ensures.confs ∙ c.requires.judged.confs ∙ ap (confs_of pinned pack commands) (sym c.into_parts.ensures.outcomes);
    }

pub returns-then-stands_as_opened-clause-before : goal.returns-then-stands_as_opened-clause-before
returns-then-stands_as_opened-clause-before c = ap (λ (p : PackView). p.before) c.into_parts.ensures.pack ∙ c.requires.judged.before

pub returns-then-stands_as_opened-clause-objects : goal.returns-then-stands_as_opened-clause-objects
returns-then-stands_as_opened-clause-objects c = ap (λ (p : PackView). p.objects) c.into_parts.ensures.pack ∙ c.requires.judged.objects

pub returns-in-Some-clause-told : goal.returns-in-Some-clause-told
returns-in-Some-clause-told c =
    let hub = c.args.self.now in
    let pinned = c.args.pin.now.pinned in
    let hosted : c.in_ok-hosted.hosted ≡ repository_at (state_of hub) pinned.repo = c.in_ok-hosted.ensures.hosted ∙ ap (λ (n : Name). repository_at (state_of hub) n) c.repo_name.ensures in
    let found = rw c.in-Some.is at c.in_ok-told.ensures.told in
    subst (λ (f : InForce). AreTold f pinned c.args.request.now.pack c.args.request.now.commands c.in-Some.told.outcomes.items c.in-Some.told.confs.items) (λ i. record { conf = found.0 i; wild = (c.wild.ensures ∙ ap wild_of hosted) i })
    (again_told pinned c.args.request.now.pack c.args.request.now.commands c.args.judged c.wild.result.now c.in-Some.told c.requires.judged found.1)

pub returns-in-Some-clause-before : goal.returns-in-Some-clause-before
returns-in-Some-clause-before c = ap (λ (p : PackView). p.before) c.into_parts-prepared.ensures.pack ∙ c.told_again.ensures.before ∙ c.requires.judged.before

pub returns-in-Some-clause-objects : goal.returns-in-Some-clause-objects
returns-in-Some-clause-objects c = ap (λ (p : PackView). p.objects) c.into_parts-prepared.ensures.pack ∙ c.told_again.ensures.objects ∙ c.requires.judged.objects

pub at_push-requires : goal.at_push-requires
at_push-requires c = subst (IsJudgement c.args.pin.now.pinned c.args.request.now.pack c.args.request.now.commands) (sym (c.in_ok-told.ensures.none c.in_default.is)) c.requires.judged

pub returns-clause-told : goal.returns-clause-told
returns-clause-told c =
    let hub = c.args.self.now in
    let pinned = c.args.pin.now.pinned in
    let hosted : c.in_ok-hosted.hosted ≡ repository_at (state_of hub) pinned.repo = c.in_ok-hosted.ensures.hosted ∙ ap (λ (n : Name). repository_at (state_of hub) n) c.repo_name.ensures in
    subst (λ (f : InForce). AreTold f pinned c.args.request.now.pack c.args.request.now.commands c.in_ok-told-2.told.outcomes.items c.in_ok-told-2.told.confs.items) (λ i. record { conf = c.conf.ensures.conf i; wild = (c.wild-2.ensures ∙ ap wild_of hosted) i }) c.in_ok-told-2.ensures

pub returns-clause-before : goal.returns-clause-before
returns-clause-before c = ap (λ (p : PackView). p.before) c.into_parts-prepared-2.ensures.pack ∙ c.told_again.ensures.before ∙ c.requires.judged.before

pub returns-clause-objects : goal.returns-clause-objects
returns-clause-objects c = ap (λ (p : PackView). p.objects) c.into_parts-prepared-2.ensures.pack ∙ c.told_again.ensures.objects ∙ c.requires.judged.objects
