use Rattle.std.proofs.Common.{◌≡◌, drop, Result}
use Rattle.pktline_core.specs.LinkState.{LinkState}
use Rattle.hub.specs.Desk.{DeskView}
use Rattle.interaction_tree.specs.Interaction.{write}
use Rattle.interaction_tree.specs.Traces.{Halt}
use Rattle.interaction_tree.specs.Runs.{Runs}
use Rattle.session_core.specs.declared.end.SessionEnd.{SessionEnd}
use Rattle.session_core.proofs.LineLemmas.{lines_left}
use Rattle.git_session.specs.Info.{look_line}
use Rattle.git_session.proofs.info.say_lines.Given as goal

abbrev pub invariant-loop-line : goal.invariant-loop-line
invariant-loop-line g l = record {
  writes : (b : LinkState) (desk : DeskView) (out : Result (Unit {0}) (Halt SessionEnd))
      → Runs (g.L.Endpoint.state l.link) b desk desk (write (lines_left look_line (drop l.line-index l.lines))) out
      → Runs (g.L.Endpoint.state l.initial.link) b desk desk (write (lines_left look_line l.lines)) out;
  reads : (g.L.Endpoint.state l.link).read_faults ≡ (g.L.Endpoint.state l.initial.link).read_faults;
  puts : (g.L.Endpoint.state l.link).write_faults ≡ (g.L.Endpoint.state l.initial.link).write_faults;
}
