use Rattle.std.proofs.Common.{sym, ◌∙◌}
use Rattle.session_core.proofs.StepLemmas.{says_nothing}
use Rattle.upload_pack.proofs.HaveLemmas.{none_common, some_common}
use Rattle.upload_pack.proofs.haves.say_none_common.Goals as goal

pub returns-then-is_empty-clause-runs : goal.returns-then-is_empty-clause-runs
returns-then-is_empty-clause-runs g c = λ desk. rw (none_common c.args.common.now (sym c.is_empty.ensures ∙ c.if-is_empty.true)) (c.say.ensures.runs desk)

pub returns-clause-runs : goal.returns-clause-runs
returns-clause-runs g c = λ desk. rw (some_common c.args.common.now (sym c.is_empty.ensures ∙ c.if-is_empty.false)) (says_nothing _ desk)
