use Rattle.std.proofs.Common.{◌≡◌, ℕ, suc, ◌<◌, ◌≤◌}
use Rattle.pktline_core.specs.Links.{IsLater, KeepsWriting}
use Rattle.raw_pack.specs.Packs.{more_size}
use Rattle.raw_pack.specs.Heads.{unit_of}
use Rattle.raw_pack.specs.Reading.{Leaves}
use Rattle.raw_pack.proofs.head.read_more_size.Given as goal

abbrev pub invariant-loop-left : goal.invariant-loop-left
invariant-loop-left g l = record {
  leaves : Leaves (more_size 4 l.entry l.sum l.kind l.fn.low 16) (more_size l.left l.entry l.sum l.kind l.size l.unit) (g.S.Endpoint.state l.initial.source) (g.S.Endpoint.state l.source) l.initial.hasher l.hasher;
  tells : (g.S.Endpoint.state l.source).read_faults ≡ (g.S.Endpoint.state l.initial.source).read_faults;
  writing : KeepsWriting (g.S.Endpoint.state l.initial.source) (g.S.Endpoint.state l.source);
  later : IsLater (g.S.Endpoint.state l.initial.source) (g.S.Endpoint.state l.source);
  few : l.left ≤ 4;
  unit : (more : ℕ) → l.left ≡ suc more → l.unit ≡ unit_of more;
  size : l.size < l.unit;
}

abbrev pub decreases-loop-left : goal.decreases-loop-left
decreases-loop-left g l = l.left
