use Rattle.report_input.proofs.EndLemmas.{bad_untold}
use Rattle.report_input.proofs.report.print_bad.Goals as goal

pub returns-in_default-clause-bad : goal.returns-in_default-clause-bad
returns-in_default-clause-bad g c = bad_untold _ c.args.offset
