use Rattle.std.proofs.Common.{◌≡◌, drop, Result}
use Rattle.std.specs.Slice.Iter.{iter_rest}
use Rattle.pktline_core.specs.LinkState.{LinkState}
use Rattle.hub.specs.Desk.{DeskView}
use Rattle.interaction_tree.specs.Interaction.{write}
use Rattle.interaction_tree.specs.Traces.{Halt}
use Rattle.interaction_tree.specs.Runs.{Runs}
use Rattle.session_core.specs.declared.end.SessionEnd.{SessionEnd}
use Rattle.receive_pack.proofs.ReportLemmas.{statuses_left}
use Rattle.receive_pack.proofs.reports.report_all.Given as goal

abbrev pub invariant-loop-command : goal.invariant-loop-command
invariant-loop-command g l = record {
  writes : (b : LinkState) (desk : DeskView) (out : Result (Unit {0}) (Halt SessionEnd))
      → Runs (g.L.Endpoint.state l.link) b desk desk (write (statuses_left l.policy.rules l.later.rules l.push (drop l.command-index l.push.commands) (iter_rest l.told))) out
      → Runs (g.L.Endpoint.state l.initial.link) b desk desk (write (statuses_left l.policy.rules l.later.rules l.push l.push.commands l.outcomes)) out;
  reads : (g.L.Endpoint.state l.link).read_faults ≡ (g.L.Endpoint.state l.initial.link).read_faults;
  puts : (g.L.Endpoint.state l.link).write_faults ≡ (g.L.Endpoint.state l.initial.link).write_faults;
}
