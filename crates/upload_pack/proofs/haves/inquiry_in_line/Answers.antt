use Rattle.std.proofs.Common.{sym, ◌∙◌, Some}
use Rattle.interaction_tree.specs.Interaction.{gives, ◌>>=◌}
use Rattle.interaction_tree.proofs.RunLemmas.{runs_gives, runs_halts}
use Rattle.session_core.proofs.StepLemmas.{malformed_here}
use Rattle.upload_pack.specs.declared.haves.Inquiry.TheVariants.{Have}
use Rattle.upload_pack.proofs.haves.inquiry_in_line.Goals as goal

pub returns-then-is_done-clause-runs : goal.returns-then-is_done-clause-runs
returns-then-is_done-clause-runs g c = λ desk. rw (← c.is_done.ensures, c.if-is_done.true) (runs_gives _ desk _)

pub returns-in-Some-clause-runs : goal.returns-in-Some-clause-runs
unfolding ◌>>=◌
returns-in-Some-clause-runs g c = λ desk. rw (← c.is_done.ensures, c.if-is_done.false, sym c.have.ensures ∙ c.in-Some.is) (runs_gives _ desk _)

pub returns-in-None-clause-runs : goal.returns-in-None-clause-runs
returns-in-None-clause-runs g c = λ desk.
    rw (← c.is_done.ensures, c.if-is_done.false, sym c.have.ensures ∙ c.in-None.is) (runs_halts _ _ desk desk _ (λ id. gives (Some (Have id))) _ (malformed_here _ _ desk _ _ (c.malformed.ensures.runs desk)))
