use Rattle.record_file.proofs.MemoryLemmas.{write_content, write_may_stay}
use Rattle.record_file.proofs.memory_disk.MemoryDisk.write.Goals as goal

pub invariant_of-self-clause-content_is : goal.invariant_of-self-clause-content_is
invariant_of-self-clause-content_is c = write_content c.args.self.now.history c.keep_write.new.self c.args.at _ c.args.piece.now c.keep_write.ensures _ _ c.args.self.now.content_is c.put_within.ensures.content

pub invariant_of-self-clause-may_stay : goal.invariant_of-self-clause-may_stay
invariant_of-self-clause-may_stay c = write_may_stay c.args.self.now.history c.keep_write.new.self c.args.at _ c.args.piece.now c.keep_write.ensures c.requires.there c.args.self.now.may_stay
