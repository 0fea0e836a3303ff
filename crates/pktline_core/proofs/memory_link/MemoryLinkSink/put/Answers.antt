use Rattle.std.proofs.Common.{inl, rules}
use Rattle.pktline_core.proofs.memory_link.MemoryLinkSink.put.Goals as goal

pub returns-then-contains-clause-answer : goal.returns-then-contains-clause-answer
returns-then-contains-clause-answer c = inl (search rules)
