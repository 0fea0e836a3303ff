use Rattle.std.proofs.Common.{◌≡◌, ◌≤◌, ◌++◌, drop, length, map}
use Rattle.conf_groups.specs.Indexes.{bytes_of}
use Rattle.conf_groups.specs.Splicing.{whole}
use Rattle.conf_groups.specs.Stacks.{scope_at, to_come}
use Rattle.conf_groups.proofs.splicing.push_files.Given as goal

-- the files from here on were pushed
abbrev pub invariant-loop-at : goal.invariant-loop-at
invariant-loop-at l = (l.at ≤ length l.names) × (to_come l.stack.items ≡ map (whole (scope_at l.scope)) (bytes_of (drop l.at l.names)) ++ to_come l.fn.stack.items)

abbrev pub decreases-loop-at : goal.decreases-loop-at
decreases-loop-at l = l.at
