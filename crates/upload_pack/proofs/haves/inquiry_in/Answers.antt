use Rattle.interaction_tree.proofs.RunLemmas.{runs_gives}
use Rattle.upload_pack.proofs.haves.inquiry_in.Goals as goal

pub returns-in-Line-clause-runs : goal.returns-in-Line-clause-runs
returns-in-Line-clause-runs g c = λ desk. rw (c.in-Line.is, ← c.without_feed.ensures) (c.inquiry_in_line.ensures.runs desk)

pub returns-in-Flush-clause-runs : goal.returns-in-Flush-clause-runs
returns-in-Flush-clause-runs g c = λ desk. rw c.in-Flush.is (runs_gives _ desk _)
