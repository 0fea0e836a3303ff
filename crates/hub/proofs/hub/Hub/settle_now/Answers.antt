use Rattle.std.proofs.Common.{◌≡◌, List, length, sym, ◌∙◌, ap, subst}
use Rattle.git_object.specs.Content.{Content}
use Rattle.ref_store.specs.Objects.{with_pack}
use Rattle.ref_store.specs.Refs.{Name}
use Rattle.ref_store.specs.Store.{Store}
use Rattle.ancestry.specs.Known.{Extends}
use Rattle.hub_history.specs.Push.{JudgesAtPush}
use Rattle.hub_history.specs.State.{Repository, in_force, repository_at}
use Rattle.hub_history.proofs.JudgeLemmas.{as_many}
use Rattle.hub_history.proofs.WholeLogs.{pinned_first}
use Rattle.hub_history.proofs.WholeRefs.{Begins}
use Rattle.hub.specs.Hub.{state_of}
use Rattle.hub.proofs.PushLemmas.{judgement_fits}
use Rattle.push_settling.specs.Basis.{StandsAs}
use Rattle.hub.proofs.WholeLemmas.{pinned_extends, stands_as}
use Rattle.hub.proofs.hub.Hub.settle_now.Goals as goal

pub settle-requires-clause-alike : goal.settle-requires-clause-alike
settle-requires-clause-alike c =
    as_many (JudgesAtPush c.some_patterns_are_true.ensures.0 (in_force (state_of c.args.self.now) c.args.pin.now.pinned.repo) c.args.pin.now.pinned c.args.request.now.pack c.args.request.now.commands) c.args.request.now.commands c.args.judged.now (c.requires.judged c.some_patterns_are_true.ensures.0 c.some_patterns_are_true.ensures.1)

pub settle-requires-clause-fit : goal.settle-requires-clause-fit
settle-requires-clause-fit c =
    judgement_fits c.some_patterns_are_true.ensures.0 (in_force (state_of c.args.self.now) c.args.pin.now.pinned.repo) c.args.pin.now.pinned c.args.request.now.pack c.args.request.now.commands c.args.judged.now (c.requires.judged c.some_patterns_are_true.ensures.0 c.some_patterns_are_true.ensures.1)

pub settle-requires-clause-stands : goal.settle-requires-clause-stands
settle-requires-clause-stands c =
    let hub = c.args.self.now in
    let pinned = c.args.pin.now.pinned in
    let now_is : c.in_ok-now.now ≡ repository_at (state_of hub) pinned.repo = c.in_ok-now.ensures.hosted ∙ ap (λ (n : Name). repository_at (state_of hub) n) c.repo_name.ensures in
    let begins : Begins pinned.repository.objects c.in_ok-now.now.objects =
    subst (λ (r : Repository). Begins pinned.repository.objects r.objects) (sym now_is)
    (pinned_first c.some_patterns_are_true.ensures.0 c.some_patterns_are_true.ensures.1 hub.admin hub.log c.log-log.ensures.legal c.args.pin.now c.requires.stands) in
    subst (λ (os : List Content). StandsAs os c.in_ok-now.now.objects c.standing_of-standing.result) (sym c.requires.before)
    (stands_as pinned.repository.objects c.in_ok-now.now.objects c.standing_of-standing.result begins
    (λ is. sym (ap (λ (s : Store). length s.objects) c.repo.ensures.repo) ∙ c.standing_of-standing.ensures is ∙ ap (λ (s : Store). length s.objects) c.repo-2.ensures))

pub settle-requires-clause-among : goal.settle-requires-clause-among
settle-requires-clause-among c = λ apart.
    let hub = c.args.self.now in
    let pinned = c.args.pin.now.pinned in
    let now_is : c.in_ok-now.now ≡ repository_at (state_of hub) pinned.repo = c.in_ok-now.ensures.hosted ∙ ap (λ (n : Name). repository_at (state_of hub) n) c.repo_name.ensures in
    let begins : Begins pinned.repository.objects c.in_ok-now.now.objects =
    subst (λ (r : Repository). Begins pinned.repository.objects r.objects) (sym now_is)
    (pinned_first c.some_patterns_are_true.ensures.0 c.some_patterns_are_true.ensures.1 hub.admin hub.log c.log-log.ensures.legal c.args.pin.now c.requires.stands) in
    subst (λ (os : List Content). Extends os (with_pack c.in_ok-now.now.objects c.args.request.now.pack)) (sym c.requires.objects) (pinned_extends pinned.repository.objects c.in_ok-now.now.objects c.args.request.now.pack begins apart)
