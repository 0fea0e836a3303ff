use Rattle.std.proofs.Common.{◌≡◌, ◌-◌, ◌≤◌, ℕ, List, []}
use Rattle.std.specs.Prelude.{IsTrue}
use Rattle.record_file.specs.Reading.{IsReadTo, IsAtGate}
use Rattle.hub_journal.specs.Replay.{last_push}
use Rattle.hub_journal.proofs.RecoveryLemmas.{HasSeen}
use Rattle.hub_journal.proofs.last_pushes.find_last_pushes.Given as goal

abbrev pub invariant-loop-front : goal.invariant-loop-front
invariant-loop-front g l = record {
  at_gate : IsAtGate l.reader (g.Y.Disk.state l.disk).size;
  size : l.reader.size ≡ l.fn.reader.size;
  counts : (g.Y.Disk.state l.disk).disk_faults ≡ (g.Y.Disk.state l.fn.disk).disk_faults;
  file : IsTrue g.Y.Disk.is_modeled → (g.Y.Disk.state l.disk).file ≡ (g.Y.Disk.state l.fn.disk).file;
  room : l.place ≤ l.reader.offset;
  seen : IsTrue g.Y.Disk.is_modeled → (head : List ℕ) → IsReadTo head [] (g.Y.Disk.state l.fn.disk).file.content l.fn.reader.offset → HasSeen head (g.Y.Disk.state l.fn.disk).file.content l.place l.reader.offset (last_push l.last_pushes.entries);
}

abbrev pub decreases-loop-front : goal.decreases-loop-front
decreases-loop-front g l = l.reader.size - l.reader.offset
