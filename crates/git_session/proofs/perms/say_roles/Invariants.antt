use Rattle.std.proofs.Common.{◌≡◌, drop, Result}
use Rattle.pktline_core.specs.LinkState.{LinkState}
use Rattle.hub.specs.Desk.{DeskView}
use Rattle.interaction_tree.specs.Interaction.{write}
use Rattle.interaction_tree.specs.Traces.{Halt}
use Rattle.interaction_tree.specs.Runs.{Runs}
use Rattle.session_core.specs.declared.end.SessionEnd.{SessionEnd}
use Rattle.session_core.proofs.LineLemmas.{lines_left}
use Rattle.git_session.specs.Perms.{role_line}
use Rattle.git_session.proofs.perms.say_roles.Given as goal

abbrev pub invariant-loop-entry : goal.invariant-loop-entry
invariant-loop-entry g l = record {
  writes : (b : LinkState) (desk : DeskView) (out : Result (Unit {0}) (Halt SessionEnd))
      → Runs (g.L.Endpoint.state l.link) b desk desk (write (lines_left role_line (drop l.entry-index l.roles))) out
      → Runs (g.L.Endpoint.state l.initial.link) b desk desk (write (lines_left role_line l.roles)) out;
  reads : (g.L.Endpoint.state l.link).read_faults ≡ (g.L.Endpoint.state l.initial.link).read_faults;
  puts : (g.L.Endpoint.state l.link).write_faults ≡ (g.L.Endpoint.state l.initial.link).write_faults;
}
