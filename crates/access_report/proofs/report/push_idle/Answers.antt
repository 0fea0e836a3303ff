use Rattle.access_report.proofs.ReportLemmas.{leads_in, row_step}
use Rattle.access_report.proofs.report.push_idle.Goals as goal

pub push_if_idle-requires : goal.push_if_idle-requires
push_if_idle-requires c = leads_in _ _ c.loop-rule.rule-index c.rule-item.result c.rules-rules.ensures.rules c.rules-rules.ensures.numbered c.loop-rule-test.true c.rule-item.is

pub loop-rule-preserved : goal.loop-rule-preserved
loop-rule-preserved c = λ ps are questions deciding same.
    row_step _ c.rules-rules.result.now c.loop-rule.rule-index c.rule-item.result _ _ _ c.loop-rule-test.true c.rule-item.is (c.loop-rule.invariant ps are questions deciding same) (c.in_ok-push_if_idle.ensures ps are questions deciding same)
