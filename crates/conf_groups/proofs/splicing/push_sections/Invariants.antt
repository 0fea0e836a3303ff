use Rattle.std.proofs.Common.{◌≡◌, ◌≤◌, ◌++◌, drop, length}
use Rattle.std.specs.List.{flat_map}
use Rattle.conf_groups.specs.Indexes.{bytes_of}
use Rattle.conf_groups.specs.Splicing.{section}
use Rattle.conf_groups.specs.Stacks.{to_come}
use Rattle.conf_groups.proofs.splicing.push_sections.Given as goal

-- the files from here on were pushed
abbrev pub invariant-loop-at : goal.invariant-loop-at
invariant-loop-at l = (l.at ≤ length l.names) × (to_come l.stack.items ≡ flat_map section (bytes_of (drop l.at l.names)) ++ to_come l.fn.stack.items)

abbrev pub decreases-loop-at : goal.decreases-loop-at
decreases-loop-at l = l.at
