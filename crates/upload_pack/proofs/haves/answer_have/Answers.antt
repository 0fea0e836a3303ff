use Rattle.std.proofs.Common.{sym, ◌∙◌, ◌≡◌, true, false, rules}
use Rattle.ref_store.specs.Objects.{has_object}
use Rattle.session_core.proofs.StepLemmas.{lacks, says_nothing}
use Rattle.upload_pack.proofs.HaveLemmas.{reply_first, reply_later}
use Rattle.upload_pack.proofs.haves.answer_have.Goals as goal

pub returns-then-not-is_there-clause-runs : goal.returns-then-not-is_there-clause-runs
returns-then-not-is_there-clause-runs g c = λ desk.
    let isnt : has_object c.args.repo.now.objects c.args.id ≡ false = search rules in
    rw isnt (says_nothing _ desk)

pub returns-in_err-push-clause-runs : goal.returns-in_err-push-clause-runs
returns-in_err-push-clause-runs g c = λ desk. lacks _ desk _ c.from_residual.result c.from_residual.ensures.1

pub returns-then-is_first-clause-runs : goal.returns-then-is_first-clause-runs
returns-then-is_first-clause-runs g c = λ desk.
    let is : has_object c.args.repo.now.objects c.args.id ≡ true = search rules in
    rw (reply_first c.args.repo.now.objects c.args.id c.args.common.now is (sym c.is_empty-is_first.ensures ∙ c.if-is_first.true)) (c.acknowledge.ensures.runs desk)

pub returns-clause-runs : goal.returns-clause-runs
returns-clause-runs g c = λ desk.
    let is : has_object c.args.repo.now.objects c.args.id ≡ true = search rules in
    rw (reply_later c.args.repo.now.objects c.args.id c.args.common.now is (sym c.is_empty-is_first.ensures ∙ c.if-is_first.false)) (says_nothing _ desk)
