use Rattle.record_file.proofs.ReadLemmas.{moves_whole, reads_whole}
use Rattle.record_file.proofs.reader.RecordReader.next_record.Goals as goal

pub returns-clause-moves : goal.returns-clause-moves
returns-clause-moves g c = moves_whole c.next_within.result c.args.self.now c.next_within.new.self c.next_within.ensures.moves

pub returns-clause-reads : goal.returns-clause-reads
returns-clause-reads g c t = reads_whole (g.D.Disk.state c.args.disk.now).file.content c.args.self.now.offset c.next_within.new.self.offset c.next_within.result (c.next_within.ensures.reads t)
