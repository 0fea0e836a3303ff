use Rattle.std.proofs.Common.{take}
use Rattle.std.specs.List.{flat_map, AllByRecursion}
use Rattle.event_record.specs.Fields.{command_bytes, HasIds}
use Rattle.event_record.specs.Writing.{Adds}
use Rattle.event_record.proofs.writing.put_each_command.Given as goal

abbrev pub invariant-loop-command : goal.invariant-loop-command
invariant-loop-command l = Adds l.initial.builder l.builder (flat_map command_bytes (take l.command-index l.commands)) × AllByRecursion HasIds (take l.command-index l.commands)
