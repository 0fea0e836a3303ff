use Rattle.std.proofs.Common.{◌≡◌, ◌++◌}
use Rattle.git_object.specs.Object.{parents_of}
use Rattle.vref.specs.History.{AddsParents}
use Rattle.vref.proofs.history.add_links_to_parents.Given as goal

abbrev pub invariant-loop-parent : goal.invariant-loop-parent
invariant-loop-parent l = record {
  adds : AddsParents l.ids.keys l.at l.yielded l.fn.links.items l.links.items;
  left : l.yielded ++ l.parent-iterator ≡ parents_of l.commit.kind l.commit.body;
}
