use Rattle.std.proofs.Common.{◌≡◌, ◌-◌}
use Rattle.event_record.specs.Reading.{object_at, body_size, items_at}
use Rattle.event_record.proofs.Loop.{with_front}
use Rattle.event_record.proofs.packs.object_list.Given as goal

abbrev pub invariant-loop : goal.invariant-loop
invariant-loop l = with_front l.objects (items_at object_at body_size (l.count - l.counter) l.left l.rest) ≡ items_at object_at body_size l.count 268435456 l.bytes
