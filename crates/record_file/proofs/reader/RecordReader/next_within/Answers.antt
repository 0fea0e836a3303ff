use Rattle.record_file.proofs.ReadLemmas.{front_read}
use Rattle.record_file.proofs.reader.RecordReader.next_within.Goals as goal

pub returns-in-Err-clause-reads : goal.returns-in-Err-clause-reads
returns-in-Err-clause-reads g c t = c.in-Err.ensures.only (g.D.Disk.state c.args.disk.now).file.content c.args.self.now.offset c.args.self.now.offset

pub returns-in-Ok-clause-reads : goal.returns-in-Ok-clause-reads
returns-in-Ok-clause-reads g c t =
    let gate = rw c.in-Record.is at (c.in_ok-read_gate.ensures.gate t) in
    front_read _ _ c.in-Ok.front.items c.from.result _ c.args.self.now _ _ _ _ (c.in_ok-read_gate.ensures.file t) c.self.view_is (g.met.D.Disk.size_told c.args.disk.now t) c.requires gate c.min-count.ensures (c.in-Ok.ensures.bytes t) c.from.ensures
