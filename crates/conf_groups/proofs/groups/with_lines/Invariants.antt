use Rattle.std.proofs.Common.{◌≡◌, drop, fold}
use Rattle.conf_groups.specs.Tables.{lines_counted, with_counted}
use Rattle.conf_groups.proofs.groups.with_lines.Given as goal

abbrev pub invariant-loop-line : goal.invariant-loop-line
invariant-loop-line l = lines_counted l.lines l.scope l.before l.fn.members ≡ fold (with_counted l.scope l.before) l.all (drop l.line-index l.lines)
