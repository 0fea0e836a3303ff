use Rattle.std.proofs.Common.{◌≡◌, take}
use Rattle.record_file.specs.MemoryDisks.{file_after}
use Rattle.record_file.proofs.history.History.pending_after.Given as goal

abbrev pub invariant-loop-call : goal.invariant-loop-call
invariant-loop-call l = record {
  content : l.content.items ≡ (file_after l.fn.self.initial (take l.call-index l.fn.self.changes)).content;
  pending : l.pending ≡ (file_after l.fn.self.initial (take l.call-index l.fn.self.changes)).pending;
}
