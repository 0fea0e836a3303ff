use Rattle.std.proofs.Common.{◌≡◌, ◌++◌}
use Rattle.git_object.specs.Object.{parents_of}
use Rattle.ancestry.specs.IdSet.{Adds}
use Rattle.ancestry.proofs.generations.insert_parents.Given as goal

abbrev pub invariant-loop-parent : goal.invariant-loop-parent
invariant-loop-parent l = record {
  adds : Adds l.fn.set l.set l.yielded;
  left : l.yielded ++ l.parent-iterator ≡ parents_of l.commit.kind l.commit.body;
}
