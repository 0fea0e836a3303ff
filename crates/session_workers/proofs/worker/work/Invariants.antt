use Rattle.std.proofs.Common.{◌≡◌, length}
use Rattle.std.specs.Prelude.{false}
use Rattle.turn_lock.specs.Lock.{IsSamePass}
use Rattle.shared_hub.specs.Kept.{admin_in}
use Rattle.shared_hub.specs.Shared.{log_at_new, log_seen}
use Rattle.session_workers.proofs.WorkLemmas.{SoFar}
use Rattle.session_workers.proofs.worker.work.Given as goal

abbrev pub invariant-loop-sessions : goal.invariant-loop-sessions
invariant-loop-sessions g l = record {
  same : IsSamePass l.fn.pass l.desk;
  served : SoFar (g.P.Protocol.meaning l.fn.protocol) g.L.Endpoint.state g.H.EventHub.may_stop (admin_in l.fn.pass.at_new) l.fn.pass.caller (length (log_at_new l.fn.pass)) (log_seen l.desk) (g.D.Door.state l.initial.door) (g.D.Door.state l.door) l.sessions l.tally.no_memory false;
  unstopped : l.tally.stopped ≡ false;
  unfailed : l.tally.door_failed ≡ false;
  unrisen : (g.D.Door.state l.door).faults ≡ (g.D.Door.state l.initial.door).faults;
}
