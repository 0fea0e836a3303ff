use Rattle.std.proofs.Common.{◌≡◌, ◌-◌}
use Rattle.event_record.specs.Reading.{command_within, no_cost, items_at}
use Rattle.event_record.proofs.Loop.{with_front}
use Rattle.event_record.proofs.packs.command_list.Given as goal

abbrev pub invariant-loop : goal.invariant-loop
invariant-loop l = with_front l.commands (items_at command_within no_cost (l.count - l.counter) 0 l.rest) ≡ items_at command_within no_cost l.count 0 l.bytes
