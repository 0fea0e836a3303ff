-- The room keeps its length, and a call that a signal interrupted changes nothing.
use Rattle.std.proofs.Common.{◌≡◌, IsTrue, length}
use Rattle.edge_links.proofs.connection.ConnectionRead.read.Given as goal

abbrev pub invariant-loop : goal.invariant-loop
invariant-loop g l = (length l.buf ≡ length l.initial.buf) × (IsTrue g.S.Stream.is_told → g.S.Stream.state l.self.stream ≡ g.S.Stream.state l.initial.self.stream)
