use Rattle.std.proofs.Common.{◌≡◌, ℕ, ◌+◌, ◌-◌, ◌^◌, List, length, false}
use Rattle.std.specs.List.{flat_map}
use Rattle.pktline_core.specs.Links.{IsLater}
use Rattle.shell_program.specs.SessionFrames.{frame_text}
use Rattle.shell_program.specs.RunningScripts.{Advances}
use Rattle.shell_program.proofs.script.run_script.Given as goal

abbrev pub invariant-loop-buffer : goal.invariant-loop-buffer
invariant-loop-buffer g l = record {
  so_far : (bodies : List (List ℕ))
      × Advances (g.I.Endpoint.state l.initial.input) (g.I.Endpoint.state l.input) (g.O.Endpoint.state l.initial.output) (g.O.Endpoint.state l.output) (g.K.Desk.view l.initial.desk) (g.K.Desk.view l.desk) 1 bodies
      × (l.number ≡ 1 + length bodies) × (l.offset ≡ length (flat_map frame_text bodies));
  unbroken : g.K.ScriptDesk.is_broken l.desk ≡ false;
  tells_input : (g.I.Endpoint.state l.input).read_faults ≡ (g.I.Endpoint.state l.initial.input).read_faults;
  tells_output : (g.O.Endpoint.state l.output).write_faults ≡ (g.O.Endpoint.state l.initial.output).write_faults;
  input : IsLater (g.I.Endpoint.state l.initial.input) (g.I.Endpoint.state l.input);
  output : IsLater (g.O.Endpoint.state l.initial.output) (g.O.Endpoint.state l.output);
  goes : g.K.Desk.goes_on l.initial.desk l.desk;
}

abbrev pub decreases-loop-buffer : goal.decreases-loop-buffer
decreases-loop-buffer g l = 2 ^ 63 - (g.I.Endpoint.state l.input).given
