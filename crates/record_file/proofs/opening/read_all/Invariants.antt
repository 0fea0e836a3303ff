use Rattle.std.proofs.Common.{◌≡◌, ◌+◌, ◌-◌, ℕ, List, []}
use Rattle.std.specs.Prelude.{IsTrue}
use Rattle.record_file.specs.Reading.{IsReadTo, IsAtGate}
use Rattle.record_file.specs.Opening.{bodies_of, with_offsets}
use Rattle.record_file.proofs.OffsetLemmas.{total_size}
use Rattle.record_file.proofs.opening.read_all.Given as goal

abbrev pub invariant-loop-next : goal.invariant-loop-next
invariant-loop-next g l = record {
  at_gate : IsAtGate l.reader (g.D.Disk.state l.disk).size;
  counts : (g.D.Disk.state l.disk).disk_faults ≡ (g.D.Disk.state l.fn.disk).disk_faults;
  file : IsTrue g.D.Disk.is_modeled → (g.D.Disk.state l.disk).file ≡ (g.D.Disk.state l.fn.disk).file;
  place : l.reader.offset ≡ l.fn.reader.offset + total_size (bodies_of l.records);
  offsets : l.records ≡ with_offsets l.fn.reader.offset (bodies_of l.records);
  read : IsTrue g.D.Disk.is_modeled → (head : List ℕ) → IsReadTo head [] (g.D.Disk.state l.fn.disk).file.content l.fn.reader.offset → IsReadTo head (bodies_of l.records) (g.D.Disk.state l.fn.disk).file.content l.reader.offset;
}

abbrev pub decreases-loop-next : goal.decreases-loop-next
decreases-loop-next g l = l.reader.size - l.reader.offset
