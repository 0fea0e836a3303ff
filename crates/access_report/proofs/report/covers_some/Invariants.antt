use Rattle.std.proofs.Common.{◌≡◌, drop}
use Rattle.std.specs.List.{list_any}
use Rattle.rule_compile.specs.Patterns.{AreTrue, Patterns}
use Rattle.access_report.specs.Report.{covers_asked}
use Rattle.access_report.proofs.report.covers_some.Given as goal

abbrev pub invariant-loop-repo : goal.invariant-loop-repo
invariant-loop-repo l = (ps : Patterns) → AreTrue ps → list_any (covers_asked ps l.rule) l.repos ≡ list_any (covers_asked ps l.rule) (drop l.repo-index l.repos)
