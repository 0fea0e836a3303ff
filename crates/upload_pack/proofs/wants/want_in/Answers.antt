use Rattle.std.proofs.Common.{Some}
use Rattle.interaction_tree.specs.Interaction.{gives}
use Rattle.interaction_tree.proofs.RunLemmas.{runs_gives}
use Rattle.session_core.proofs.StepLemmas.{goes, halts}
use Rattle.upload_pack.proofs.wants.want_in.Goals as goal

pub returns-in-Ok-clause-runs : goal.returns-in-Ok-clause-runs
returns-in-Ok-clause-runs g c = λ desk.
    rw (c.in-Line.is, ← c.without_feed.ensures) (goes _ _ desk desk _ (λ id. gives (Some id)) c.want_in_line.result _ desk c.in-Ok.id _ c.in-Ok.is (c.want_in_line.ensures.runs desk) (runs_gives _ desk _))

pub returns-in-Err-clause-runs : goal.returns-in-Err-clause-runs
returns-in-Err-clause-runs g c = λ desk.
    rw (c.in-Line.is, ← c.without_feed.ensures) (halts _ _ desk desk _ (λ id. gives (Some id)) c.want_in_line.result c.in-Err.end c.in-Err.is (c.want_in_line.ensures.runs desk))

pub returns-in-Flush-clause-runs : goal.returns-in-Flush-clause-runs
returns-in-Flush-clause-runs g c = λ desk. rw c.in-Flush.is (runs_gives _ desk _)
