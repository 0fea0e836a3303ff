-- A call that a signal interrupted changes nothing.
use Rattle.std.proofs.Common.{◌≡◌, IsTrue}
use Rattle.edge_links.proofs.connection.ConnectionWrite.write.Given as goal

abbrev pub invariant-loop : goal.invariant-loop
invariant-loop g l = IsTrue g.S.Stream.is_told → g.S.Stream.state l.self.stream ≡ g.S.Stream.state l.initial.self.stream
