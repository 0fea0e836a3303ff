use Rattle.std.proofs.Common.{◌≡◌, ◌≤◌, ◌-◌, length}
use Rattle.pktline_core.specs.Links.{IsLater}
use Rattle.script_frames.specs.ReadingFrames.{Takes}
use Rattle.script_frames.proofs.frames.read_body.Given as goal

abbrev pub invariant-loop-body : goal.invariant-loop-body
invariant-loop-body g l = record {
  takes : Takes (g.S.Endpoint.state l.initial.source) (g.S.Endpoint.state l.source) l.body.items;
  within : length l.body.items ≤ l.size;
  tells : (g.S.Endpoint.state l.source).read_faults ≡ (g.S.Endpoint.state l.initial.source).read_faults;
  later : IsLater (g.S.Endpoint.state l.initial.source) (g.S.Endpoint.state l.source);
}

abbrev pub decreases-loop-body : goal.decreases-loop-body
decreases-loop-body g l = l.size - length l.body.items
