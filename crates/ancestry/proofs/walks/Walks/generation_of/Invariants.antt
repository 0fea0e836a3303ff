use Rattle.std.proofs.Common.{◌≡◌, ◌++◌}
use Rattle.git_object.specs.Object.{parents_of}
use Rattle.ancestry.specs.Generations.{IsAfter}
use Rattle.ancestry.proofs.walks.Walks.generation_of.Given as goal

abbrev pub invariant-loop-parent : goal.invariant-loop-parent
invariant-loop-parent l = record {
  after : IsAfter l.self l.yielded l.generation;
  left : l.yielded ++ l.parent-iterator ≡ parents_of l.object.kind l.object.body;
}
