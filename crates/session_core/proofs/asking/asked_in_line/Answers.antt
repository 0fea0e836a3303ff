use Rattle.std.proofs.Common.{sym}
use Rattle.interaction_tree.proofs.RunLemmas.{runs_gives}
use Rattle.session_core.proofs.ShortLemmas.{line_short}
use Rattle.session_core.proofs.StepLemmas.{lacks, refused}
use Rattle.session_core.proofs.asking.asked_in_line.Goals as goal

pub returns-in_err-asked-clause-runs : goal.returns-in_err-asked-clause-runs
returns-in_err-asked-clause-runs g c = λ desk. lacks _ desk _ c.from_residual.result c.from_residual.ensures.1

pub returns-in-Asks-clause-runs : goal.returns-in-Asks-clause-runs
returns-in-Asks-clause-runs g c = λ desk. let is = rw c.in-Asks.is at c.in_ok-asked.ensures in rw (sym is) (runs_gives _ desk _)

pub returns-in-BadCommand-clause-runs : goal.returns-in-BadCommand-clause-runs
returns-in-BadCommand-clause-runs g c = λ desk. let is = rw c.in-BadCommand.is at c.in_ok-asked.ensures in rw (sym is) (c.bad_command.ensures.runs desk)

pub returns-in-BadUser-clause-runs : goal.returns-in-BadUser-clause-runs
returns-in-BadUser-clause-runs g c = λ desk. let is = rw c.in-BadUser.is at c.in_ok-asked.ensures in rw (sym is) (refused _ _ desk _ _ _ (c.refuse.ensures.runs desk))

pub returns-in-Asks-clause-short : goal.returns-in-Asks-clause-short
returns-in-Asks-clause-short g c = let is = rw c.in-Asks.is at c.in_ok-asked.ensures in line_short c.args.line.now c.in-Asks.asked (sym is)
