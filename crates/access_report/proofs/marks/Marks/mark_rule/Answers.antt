use Rattle.std.proofs.Common.{◌-◌, ◌<◌, length, rules}
use Rattle.access_report.proofs.MarkLemmas.{marked}
use Rattle.access_report.proofs.marks.Marks.mark_rule.Goals as goal

pub returns-in-Some-clause-marks : goal.returns-in-Some-clause-marks
returns-in-Some-clause-marks c =
    let within : c.args.seq - 1 < length c.args.self.now.marks.items = search rules in
    marked c.args.self.now.marks.items c.args.seq c.if-seq-eq0.false within
