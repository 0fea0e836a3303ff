use Rattle.std.proofs.Common.{◌≡◌}
use Rattle.conf_groups.specs.Indexes.{files_at}
use Rattle.conf_groups.specs.Splicing.{front, spliced_from}
use Rattle.conf_groups.specs.Stacks.{state_of}
use Rattle.conf_groups.specs.declared.limits.TheConstants.{MAX_LINES}
use Rattle.conf_groups.proofs.stack.Splicer.run.Given as goal

-- what is due from the start is due from here
abbrev pub invariant-loop-room : goal.invariant-loop-room
invariant-loop-room l = spliced_from (files_at l.files) MAX_LINES (front (state_of l.fn.self)) ≡ spliced_from (files_at l.files) l.room (front (state_of l.self))

abbrev pub decreases-loop-room : goal.decreases-loop-room
decreases-loop-room l = l.room
