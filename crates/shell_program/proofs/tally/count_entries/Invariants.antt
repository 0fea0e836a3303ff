use Rattle.std.proofs.Common.{◌≡◌, ◌-◌, ◌^◌, take}
use Rattle.std.specs.Prelude.{min}
use Rattle.shell_program.specs.Load.{denied_in, done_in, refused_in}
use Rattle.shell_program.proofs.tally.count_entries.Given as goal

abbrev pub invariant-loop-entry : goal.invariant-loop-entry
invariant-loop-entry l = record {
  done : l.tally.done ≡ min (done_in (take l.entry-index l.log)) (2 ^ 64 - 1);
  denied : l.tally.denied ≡ min (denied_in (take l.entry-index l.log)) (2 ^ 64 - 1);
  refused : l.tally.refused ≡ min (refused_in (take l.entry-index l.log)) (2 ^ 64 - 1);
}
