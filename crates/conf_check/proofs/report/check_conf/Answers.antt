use Rattle.conf_check.proofs.ReportLemmas.{fault_printed, rules_printed}
use Rattle.conf_check.proofs.report.check_conf.Goals as goal

pub returns-in-Ok : goal.returns-in-Ok
returns-in-Ok c = rules_printed c.args.input.items c.in_ok-files.files c.in_ok-files.ensures c.in-Ok.policy c.in-Ok.ensures c.rules_report.result c.rules_report.ensures

pub returns : goal.returns
returns c = fault_printed c.args.input.items c.in_ok-files.files c.in_ok-files.ensures c.in-Err.fault c.in-Err.ensures c.fault_report.result c.fault_report.ensures
