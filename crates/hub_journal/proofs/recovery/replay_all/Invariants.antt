use Rattle.std.proofs.Common.{◌≡◌, ◌-◌, ℕ, List, []}
use Rattle.std.specs.Prelude.{IsTrue}
use Rattle.record_file.specs.Reading.{IsReadTo, IsAtGate}
use Rattle.hub_history.specs.History.{IsLegal}
use Rattle.hub_journal.specs.Events.{AreStorableEntries, bodies_in}
use Rattle.hub_journal.proofs.recovery.replay_all.Given as goal

abbrev pub invariant-loop-next : goal.invariant-loop-next
invariant-loop-next g l = record {
  at_gate : IsAtGate l.reader (g.Y.Disk.state l.disk).size;
  counts : (g.Y.Disk.state l.disk).disk_faults ≡ (g.Y.Disk.state l.fn.disk).disk_faults;
  file : IsTrue g.Y.Disk.is_modeled → (g.Y.Disk.state l.disk).file ≡ (g.Y.Disk.state l.fn.disk).file;
  admin : l.replay.hub.admin ≡ l.fn.replay.hub.admin;
  last_pushes : l.replay.last_pushes ≡ l.fn.replay.last_pushes;
  legal : IsLegal l.replay.hub.admin l.replay.hub.log;
  storable : AreStorableEntries l.replay.hub.log;
  read : IsTrue g.Y.Disk.is_modeled → (head : List ℕ) → IsReadTo head [] (g.Y.Disk.state l.fn.disk).file.content l.fn.reader.offset → IsReadTo head (bodies_in l.replay.hub.log) (g.Y.Disk.state l.fn.disk).file.content l.reader.offset;
}

abbrev pub decreases-loop-next : goal.decreases-loop-next
decreases-loop-next g l = l.reader.size - l.reader.offset
