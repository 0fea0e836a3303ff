use Rattle.std.proofs.Common.{sym, ◌∙◌}
use Rattle.interaction_tree.proofs.RunLemmas.{runs_gives}
use Rattle.session_core.proofs.StepLemmas.{malformed_here}
use Rattle.upload_pack.proofs.wants.want_in_line.Goals as goal

pub returns-in-None-clause-runs : goal.returns-in-None-clause-runs
returns-in-None-clause-runs g c = λ desk. rw (sym c.want.ensures ∙ c.in-None.is) (malformed_here _ _ desk _ _ (c.malformed.ensures.runs desk))

pub returns-in-Some-clause-runs : goal.returns-in-Some-clause-runs
returns-in-Some-clause-runs g c = λ desk. rw (sym c.want.ensures ∙ c.in-Some.is) (runs_gives _ desk _)
