use Rattle.std.proofs.Common.{◌≡◌, ◌+◌, ◌*◌}
use Rattle.installation.specs.Draws.{drawn}
use Rattle.shell_program.specs.RunningLoads.{HasLoaded}
use Rattle.shell_program.proofs.load.load_all.Given as goal

abbrev pub invariant-loop-number : goal.invariant-loop-number
invariant-loop-number l = record {
  loaded : HasLoaded l.count l.start l.number l.hub;
  draws : l.draws.last ≡ drawn l.start (2 * l.count + 3 * l.number);
}
