use Rattle.std.proofs.Common.{◌≡◌}
use Rattle.turn_lock.proofs.turn.take.Given as goal

abbrev pub invariant-loop : goal.invariant-loop
invariant-loop g l = record {
  can : (goal.iterator-loop g).can_next l.iterator';
  finite : (goal.iterator-loop g).is_finite l.iterator';
  me : l.seat.me ≡ l.initial.seat.me;
  table : (l.seat.table_id ≡ l.initial.seat.table_id) × (l.seat.id ≡ l.initial.seat.id);
}
