use Rattle.std.proofs.Common.{◌≡◌, ◌++◌, drop}
use Rattle.receive_pack.proofs.receiving.copy_of.Given as goal

abbrev pub invariant-loop-command : goal.invariant-loop-command
invariant-loop-command l = record { copied : l.copy ++ drop l.command-index l.commands ≡ l.commands }
