use Rattle.std.proofs.Common.{◌≡◌, ◌++◌}
use Rattle.git_object.specs.Object.{links_of}
use Rattle.ancestry.specs.Walk.{wanted_by}
use Rattle.ancestry.specs.Verdict.{IsToldOfAll}
use Rattle.ancestry.proofs.walks.Walks.verdict_of_links.Given as goal

abbrev pub invariant-loop-to : goal.invariant-loop-to
invariant-loop-to l = record {
  told : IsToldOfAll l.self (wanted_by l.yielded) l.verdict;
  left : l.yielded ++ l.to-iterator ≡ links_of l.object.kind l.object.body;
}
