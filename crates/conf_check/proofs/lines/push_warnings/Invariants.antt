use Rattle.std.proofs.Common.{◌≡◌, ◌++◌, drop}
use Rattle.std.specs.List.{flat_map}
use Rattle.conf_check.specs.Lines.{warning_line}
use Rattle.conf_check.proofs.lines.push_warnings.Given as goal

abbrev pub invariant-loop-warning : goal.invariant-loop-warning
invariant-loop-warning l = l.initial.text.items ++ flat_map warning_line l.warnings ≡ l.text.items ++ flat_map warning_line (drop l.warning-index l.warnings)
