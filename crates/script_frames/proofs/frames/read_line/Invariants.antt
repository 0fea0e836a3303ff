use Rattle.std.proofs.Common.{◌≡◌, ◌≤◌, ◌-◌, length}
use Rattle.pktline_core.specs.Links.{IsLater}
use Rattle.script_frames.specs.Frames.{HasNoFeed}
use Rattle.script_frames.specs.ReadingFrames.{Takes}
use Rattle.script_frames.proofs.frames.read_line.Given as goal

abbrev pub invariant-loop-byte : goal.invariant-loop-byte
invariant-loop-byte g l = record {
  takes : Takes (g.S.Endpoint.state l.initial.source) (g.S.Endpoint.state l.source) l.line.items;
  no_feed : HasNoFeed l.line.items;
  within : length l.line.items ≤ 17;
  tells : (g.S.Endpoint.state l.source).read_faults ≡ (g.S.Endpoint.state l.initial.source).read_faults;
  later : IsLater (g.S.Endpoint.state l.initial.source) (g.S.Endpoint.state l.source);
}

abbrev pub decreases-loop-byte : goal.decreases-loop-byte
decreases-loop-byte g l = 17 - length l.line.items
