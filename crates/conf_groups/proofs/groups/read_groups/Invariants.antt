use Rattle.std.proofs.Common.{◌≡◌, drop}
use Rattle.conf_groups.specs.Tables.{groups_from, groups_of}
use Rattle.conf_groups.proofs.groups.read_groups.Given as goal

abbrev pub invariant-loop-place : goal.invariant-loop-place
invariant-loop-place l = groups_of l.placed ≡ groups_from l.groups l.place (drop l.place l.placed)
