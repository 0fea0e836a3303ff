use Rattle.std.proofs.Common.{◌≡◌, drop}
use Rattle.std.specs.Prelude.{fold}
use Rattle.conf_groups.specs.Tables.{members_by, with_line}
use Rattle.conf_groups.proofs.groups.members_by.Given as goal

abbrev pub invariant-loop-line : goal.invariant-loop-line
invariant-loop-line l = members_by l.lines l.scope l.before ≡ fold (with_line l.scope l.before) l.members (drop l.line-index l.lines)
