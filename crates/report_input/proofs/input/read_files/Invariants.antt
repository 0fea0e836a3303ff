use Rattle.std.proofs.Common.{◌≡◌, ◌-◌, ◌^◌}
use Rattle.pktline_core.specs.Links.{IsLater}
use Rattle.report_input.proofs.InputLemmas.{Took}
use Rattle.report_input.proofs.input.read_files.Given as goal

abbrev pub invariant-loop-confs : goal.invariant-loop-confs
invariant-loop-confs g l = record {
  took : Took (g.S.Endpoint.state l.initial.source) (g.S.Endpoint.state l.source) l.confs l.offset l.place;
  tells : (g.S.Endpoint.state l.source).read_faults ≡ (g.S.Endpoint.state l.initial.source).read_faults;
  later : IsLater (g.S.Endpoint.state l.initial.source) (g.S.Endpoint.state l.source);
}

abbrev pub decreases-loop-confs : goal.decreases-loop-confs
decreases-loop-confs g l = 2 ^ 63 - (g.S.Endpoint.state l.source).given
