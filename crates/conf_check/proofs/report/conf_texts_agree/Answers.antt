use Rattle.std.proofs.Common.{sym, ◌∙◌}
use Rattle.conf_check.proofs.report.conf_texts_agree.Goals as goal

pub returns : goal.returns
returns c = λ input has_rules other_has text other p q.
    let ps = c.some_patterns_are_true.ensures in
    let one = p ps.0 ps.1 in
    let two = q ps.0 ps.1 in
    (sym one.0 ∙ two.0, sym one.1 ∙ two.1)
