use Rattle.std.proofs.Common.{◌≡◌, ◌-◌, ◌^◌, length}
use Rattle.pktline_core.specs.Links.{IsLater}
use Rattle.script_frames.specs.ReadingFrames.{Takes}
use Rattle.shell_program.proofs.check.read_all.Given as goal

abbrev pub invariant-loop-count : goal.invariant-loop-count
invariant-loop-count g l = record {
  takes : Takes (g.S.Endpoint.state l.initial.source) (g.S.Endpoint.state l.source) l.input.items;
  room : length l.room.items ≡ 65536;
  tells : (g.S.Endpoint.state l.source).read_faults ≡ (g.S.Endpoint.state l.initial.source).read_faults;
  later : IsLater (g.S.Endpoint.state l.initial.source) (g.S.Endpoint.state l.source);
}

abbrev pub decreases-loop-count : goal.decreases-loop-count
decreases-loop-count g l = 2 ^ 63 - (g.S.Endpoint.state l.source).given
