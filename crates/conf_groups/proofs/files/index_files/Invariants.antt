use Rattle.std.proofs.Common.{◌≡◌, ◌≤◌, drop, length}
use Rattle.conf_groups.specs.Files.{by_name}
use Rattle.conf_groups.specs.Indexes.{HaveTheirNames, files_at}
use Rattle.conf_groups.proofs.files.index_files.Given as goal

-- the files from here on were added
abbrev pub invariant-loop-at : goal.invariant-loop-at
invariant-loop-at l = (l.at ≤ length l.list) × (files_at l.index ≡ by_name (drop l.at l.list)) × HaveTheirNames l.index

abbrev pub decreases-loop-at : goal.decreases-loop-at
decreases-loop-at l = l.at
