use Rattle.std.proofs.Common.{◌≡◌, ◌++◌, length, List, ℕ}
use Rattle.std.specs.Io.KnownBytes.{Appends}
use Rattle.pktline_core.specs.Links.{IsLater, KeepsReading}
use Rattle.pktline_core.proofs.links.write_all.Given as goal

abbrev pub invariant-loop-rest : goal.invariant-loop-rest
invariant-loop-rest g l = record {
  bytes : (done : List ℕ) × (l.bytes ≡ done ++ l.rest) × Appends ((g.S.Endpoint.state l.initial.sink).written) ((g.S.Endpoint.state l.sink).written) done;
  tells : (g.S.Endpoint.state l.sink).write_faults ≡ (g.S.Endpoint.state l.initial.sink).write_faults;
  reading : KeepsReading (g.S.Endpoint.state l.initial.sink) (g.S.Endpoint.state l.sink);
  later : IsLater (g.S.Endpoint.state l.initial.sink) (g.S.Endpoint.state l.sink);
}

abbrev pub decreases-loop-rest : goal.decreases-loop-rest
decreases-loop-rest g l = length l.rest
