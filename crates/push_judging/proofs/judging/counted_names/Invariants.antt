use Rattle.std.proofs.Common.{take}
use Rattle.push_judging.specs.Counting.{Counts}
use Rattle.push_judging.proofs.judging.counted_names.Given as goal

abbrev pub invariant-loop-command : goal.invariant-loop-command
invariant-loop-command l = Counts l.names (take l.command-index l.commands)
