use Rattle.std.proofs.Common.{◌≡◌, ◌≤◌, length}
use Rattle.std.specs.List.{AllByRecursion}
use Rattle.ref_store.specs.declared.command.Command.{Command}
use Rattle.hub_tests.proofs.hub_tests.creates.Given as goal

abbrev pub invariant-loop-letter : goal.invariant-loop-letter
invariant-loop-letter g l = record {
  len : length l.list ≡ l.letter-index;
  short : AllByRecursion (λ (c : Command). length c.name ≤ 1024) l.list;
}
