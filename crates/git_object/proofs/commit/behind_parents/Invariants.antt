use Rattle.std.proofs.Common.{◌≡◌, ◌≤◌, length}
use Rattle.git_object.specs.Commit.{parent_line}
use Rattle.git_object.specs.Reader.{behind}
use Rattle.git_object.proofs.commit.behind_parents.Given as goal

abbrev pub invariant-loop-after : goal.invariant-loop-after
invariant-loop-after l = record {
  behind : behind parent_line l.rest ≡ behind parent_line l.lines;
  len : length l.rest ≤ length l.lines;
}

abbrev pub decreases-loop-after : goal.decreases-loop-after
decreases-loop-after l = length l.rest
