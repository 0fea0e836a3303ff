use Rattle.std.proofs.Common.{ap, sym, ◌∙◌, length, subst}
use Rattle.hub.specs.Hub.{HubView}
use Rattle.hub.specs.Desk.{entries_of}
use Rattle.shared_hub.specs.Kept.{log_in}
use Rattle.shared_hub.specs.Shared.{log_at_new}
use Rattle.shared_hub.proofs.ListLemmas.{log_in-append, same_first}
use Rattle.shared_hub.proofs.PassLemmas.{closed_hub, callers_below}
use Rattle.shared_hub.proofs.shared.SharedHub.close.Goals as goal

pub returns-clause-seen : goal.returns-clause-seen
returns-clause-seen g c =
    let kept = c.close-kept.result in
    ap g.H.EventHub.view c.into_hub.ensures.hub ∙ closed_hub kept.first (g.H.EventHub.view kept.hub) c.args.pass c.requires.hub.admin c.close-kept.ensures.list

pub returns-clause-begins : goal.returns-clause-begins
returns-clause-begins g c = (
  log_in c.args.pass.since,
  sym (log_in-append c.args.pass.at_new c.args.pass.since) ∙ sym (ap (λ (h : HubView). h.log) (returns-clause-seen g c)),
  callers_below c.args.pass.passes c.args.pass.since c.close-kept.ensures.callers,
)

pub returns-clause-kept : goal.returns-clause-kept
returns-clause-kept g c = λ n. ap (λ (h : HubView). entries_of n (length (log_at_new c.args.pass)) h.log) (returns-clause-seen g c)

pub returns-clause-goes : goal.returns-clause-goes
returns-clause-goes g c = λ first began.
    let kept = c.close-kept.result in
    subst (λ f. g.H.EventHub.goes_on f c.into_hub.result) (same_first kept.first first (g.H.EventHub.view kept.hub) c.args.pass.at_new c.args.pass.since c.close-kept.ensures.list began) c.into_hub.ensures.goes
