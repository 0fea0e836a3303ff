use Rattle.std.proofs.Common.{refl, ◌∙◌, subst}
use Rattle.hub_history.specs.Conf.{AreInForce}
use Rattle.hub_history.specs.State.{Conf}
use Rattle.session_core.proofs.GateLemmas.{lets_in_none, lets_in_one}
use Rattle.session_core.proofs.RulebookLemmas.{memory_by}
use Rattle.receive_pack.proofs.PushLemmas.{pushed_then}
use Rattle.receive_pack.proofs.receiving.push.Goals as goal

pub returns-in_default-clause-runs : goal.returns-in_default-clause-runs
returns-in_default-clause-runs g c = memory_by _ _ _

pub returns-in_default-reported_push-clause-runs : goal.returns-in_default-reported_push-clause-runs
returns-in_default-reported_push-clause-runs g c = memory_by _ _ _

pub returns-in_default-judge-clause-runs : goal.returns-in_default-judge-clause-runs
returns-in_default-judge-clause-runs g c = memory_by _ _ _

pub returns-in-Settled-clause-runs : goal.returns-in-Settled-clause-runs
returns-in-Settled-clause-runs g c =
    let laws = c.hold_laws.ensures in
    pushed_then laws.one laws.openings _ _ _ _ c.args.pin c.args.capabilities c.args.pack c.args.commands c.in-Ok-reported_push.told c.in-Settled.outcomes _ _ c.policy.result.now c.policy-in-Settled.result.now _ c.requires.stands
    (λ patterns matching. subst (λ (conf : Conf). AreInForce patterns conf c.policy.result.now) (c.in-Ok.ensures.cases ∙ c.conf.ensures) (c.policy.ensures patterns matching))
    (λ patterns matching. c.policy-in-Settled.ensures patterns matching)
    c.in-Ok-reported_push.ensures c.in-Settled.ensures.answers (c.write_report.ensures.runs _)

pub returns-clause-runs : goal.returns-clause-runs
returns-clause-runs g c = rw c.in-NoMemory.ensures.answers.1 (memory_by _ _ _)

pub returns-in_default-clause-goes : goal.returns-in_default-clause-goes
returns-in_default-clause-goes g c = g.met.K.Desk.stays c.args.desk.now

pub returns-in_default-reported_push-clause-goes : goal.returns-in_default-reported_push-clause-goes
returns-in_default-reported_push-clause-goes g c = g.met.K.Desk.stays c.args.desk.now

pub returns-in_default-judge-clause-goes : goal.returns-in_default-judge-clause-goes
returns-in_default-judge-clause-goes g c = g.met.K.Desk.stays c.args.desk.now

pub returns-in_default-clause-lets_in : goal.returns-in_default-clause-lets_in
returns-in_default-clause-lets_in g c = lets_in_none _ _ refl

pub returns-in_default-reported_push-clause-lets_in : goal.returns-in_default-reported_push-clause-lets_in
returns-in_default-reported_push-clause-lets_in g c = lets_in_none _ _ refl

pub returns-in_default-judge-clause-lets_in : goal.returns-in_default-judge-clause-lets_in
returns-in_default-judge-clause-lets_in g c = lets_in_none _ _ refl

pub returns-in-Settled-clause-lets_in : goal.returns-in-Settled-clause-lets_in
returns-in-Settled-clause-lets_in g c = lets_in_one _ _ _ _ c.in-Settled.ensures.answers.1

pub returns-clause-lets_in : goal.returns-clause-lets_in
returns-clause-lets_in g c = lets_in_none _ _ c.in-NoMemory.ensures.answers.1
