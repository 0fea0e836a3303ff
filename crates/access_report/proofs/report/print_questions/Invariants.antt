use Rattle.std.proofs.Common.{◌≡◌, length}
use Rattle.std.specs.List.{flat_map}
use Rattle.pktline_core.specs.Links.{IsLater}
use Rattle.rule_compile.specs.Patterns.{AreTrue, Patterns}
use Rattle.access_report.specs.Answers.{Remembers, questions_below}
use Rattle.access_report.specs.Marks.{AreDeciding}
use Rattle.access_report.specs.Text.{question_line}
use Rattle.access_report.specs.Writing.{HandsOn}
use Rattle.access_report.proofs.report.print_questions.Given as goal

abbrev pub invariant-loop-at : goal.invariant-loop-at
invariant-loop-at g l = record {
  handed : (ps : Patterns) → AreTrue ps → HandsOn (g.O.Endpoint.state l.initial.sink) (g.O.Endpoint.state l.sink) l.initial.waiting.items l.waiting.items (flat_map (question_line l.asked) (questions_below ps l.policy l.asked l.at));
  deciding : (ps : Patterns) → AreTrue ps → AreDeciding l.walk.marks.marks.items (questions_below ps l.policy l.asked l.at);
  same_length : length l.walk.marks.marks.items ≡ length l.initial.walk.marks.marks.items;
  remembers : (ps : Patterns) → AreTrue ps → Remembers ps l.policy l.asked l.walk.memo;
  tells : (g.O.Endpoint.state l.sink).write_faults ≡ (g.O.Endpoint.state l.initial.sink).write_faults;
  later : IsLater (g.O.Endpoint.state l.initial.sink) (g.O.Endpoint.state l.sink);
}
