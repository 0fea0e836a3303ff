use Rattle.std.proofs.Common.{◌≡◌, ◌≤◌, length}
use Rattle.pktline_core.specs.Links.{IsLater}
use Rattle.rule_compile.specs.Patterns.{AreTrue, Patterns}
use Rattle.access_report.specs.Changes.{RememberBoth}
use Rattle.access_report.specs.Report.{change_lines, changes_below}
use Rattle.access_report.specs.Writing.{HandsOn}
use Rattle.access_report.proofs.report.print_changes.Given as goal

abbrev pub invariant-loop-at : goal.invariant-loop-at
invariant-loop-at g l = record {
  handed : (ps : Patterns) → AreTrue ps → HandsOn (g.O.Endpoint.state l.initial.sink) (g.O.Endpoint.state l.sink) l.initial.waiting.items l.waiting.items (change_lines l.asked (changes_below ps l.confs.first.now l.confs.second.now l.asked l.at));
  counted : (ps : Patterns) → AreTrue ps → l.changes ≡ length (changes_below ps l.confs.first.now l.confs.second.now l.asked l.at);
  few : l.changes ≤ l.at;
  remember : (ps : Patterns) → AreTrue ps → RememberBoth ps l.confs l.asked l.memos;
  tells : (g.O.Endpoint.state l.sink).write_faults ≡ (g.O.Endpoint.state l.initial.sink).write_faults;
  later : IsLater (g.O.Endpoint.state l.initial.sink) (g.O.Endpoint.state l.sink);
}
