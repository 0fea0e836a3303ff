use Rattle.std.proofs.Common.{◌≡◌, ◌≤◌, drop, map}
use Rattle.refex.specs.Items.{placed_of}
use Rattle.refex.specs.Faults.{first_fault}
use Rattle.refex.specs.declared.items.Last.TheVariants as last
use Rattle.refex.proofs.FirstFault.{pending}
use Rattle.refex.proofs.offences.first_fault.Given as goal

abbrev pub invariant-loop-i : goal.invariant-loop-i
invariant-loop-i l = record {
  few : l.before.depth ≤ l.i;
  rest : first_fault last.Nothing 0 (map placed_of l.tokens) ≡ pending l.before.depth l.before.outermost l.before.last (drop l.i (map placed_of l.tokens));
}
