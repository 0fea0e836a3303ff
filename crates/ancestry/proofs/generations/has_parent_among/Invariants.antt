use Rattle.std.proofs.Common.{◌≡◌, ◌++◌}
use Rattle.git_object.specs.Object.{parents_of}
use Rattle.ancestry.proofs.generations.has_parent_among.Given as goal

abbrev pub invariant-loop-parent : goal.invariant-loop-parent
invariant-loop-parent l = l.yielded ++ l.parent-iterator ≡ parents_of l.commit.kind l.commit.body
