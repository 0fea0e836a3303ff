use Rattle.std.proofs.Common.{◌≡◌, ◌++◌}
use Rattle.git_object.specs.Object.{links_of}
use Rattle.ancestry.specs.Walk.{wanted_by}
use Rattle.ancestry.specs.Seen.{Notes}
use Rattle.ancestry.proofs.seen.Seen.enter.Given as goal

abbrev pub invariant-loop-to : goal.invariant-loop-to
invariant-loop-to l = record {
  notes : Notes l.lens l.fn.self l.self (wanted_by l.yielded);
  left : l.yielded ++ l.to-iterator ≡ links_of l.object.kind l.object.body;
}
