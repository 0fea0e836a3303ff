use Rattle.session_core.proofs.StepLemmas.{says_nothing}
use Rattle.receive_pack.proofs.reports.write_report.Goals as goal

pub returns-then-capabilities-clause-runs : goal.returns-then-capabilities-clause-runs
returns-then-capabilities-clause-runs g c = λ desk. rw c.if-capabilities.true (c.report.ensures.runs desk)

pub returns-clause-runs : goal.returns-clause-runs
returns-clause-runs g c = λ desk. rw c.if-capabilities.false (says_nothing _ desk)
