use Rattle.std.proofs.Common.{◌≡◌, ◌++◌, List, drop, length}
use Rattle.std.specs.List.{flat_map}
use Rattle.rule_compile.specs.Patterns.{AreTrue, Patterns}
use Rattle.access_report.specs.Marks.{AreDeciding}
use Rattle.access_report.specs.Report.{idle_number}
use Rattle.access_report.specs.declared.answers.Question.{Question}
use Rattle.access_report.proofs.report.push_idle.Given as goal

abbrev pub invariant-loop-rule : goal.invariant-loop-rule
invariant-loop-rule l = (ps : Patterns) → AreTrue ps → (questions : List Question) → AreDeciding l.marks.marks.items questions → length l.marks.marks.items ≡ length l.policy.rules
    → l.initial.text.items ++ flat_map (idle_number ps l.asked questions) l.rules ≡ l.text.items ++ flat_map (idle_number ps l.asked questions) (drop l.rule-index l.rules)
