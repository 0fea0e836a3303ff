use Rattle.std.proofs.Common.{◌≡◌, ◌+◌, ◌-◌, ◌≤◌, length, take}
use Rattle.std.specs.Io.KnownBytes.{Consumes}
use Rattle.pktline_core.specs.Links.{IsLater, KeepsWriting}
use Rattle.pktline_core.proofs.links.take_all.Given as goal

abbrev pub invariant-loop-filled : goal.invariant-loop-filled
invariant-loop-filled g l = record {
  within : l.filled ≤ length l.room;
  consumed : Consumes ((g.S.Endpoint.state l.initial.source).left) ((g.S.Endpoint.state l.source).left) (take l.filled l.room);
  counted : (g.S.Endpoint.state l.source).given ≡ (g.S.Endpoint.state l.initial.source).given + l.filled;
  tells : (g.S.Endpoint.state l.source).read_faults ≡ (g.S.Endpoint.state l.initial.source).read_faults;
  writing : KeepsWriting (g.S.Endpoint.state l.initial.source) (g.S.Endpoint.state l.source);
  later : IsLater (g.S.Endpoint.state l.initial.source) (g.S.Endpoint.state l.source);
}

abbrev pub decreases-loop-filled : goal.decreases-loop-filled
decreases-loop-filled g l = length l.room - l.filled
