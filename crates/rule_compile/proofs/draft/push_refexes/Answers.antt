use Rattle.std.proofs.Common.{◌+◌, List, ℕ, drop, ◌∙◌}
use Rattle.std.proofs.lemmas.List.{at_drop_more}
use Rattle.std.proofs.lemmas.Result.{err_from_is_err_and}
use Rattle.rule_compile.specs.Flat.{pushed, for_users, for_refexes}
use Rattle.rule_compile.proofs.PushLemmas.{pushed_on, fails_on}
use Rattle.rule_compile.proofs.draft.push_refexes.Goals as goal

pub returns-in_err-push_users : goal.returns-in_err-push_users
returns-in_err-push_users c =
    let p = err_from_is_err_and c.from_residual.result c.from_residual.ensures.1 in
    let rest = λ (xs : List (List ℕ)). for_refexes c.args.repo.now xs c.args.users.now in
    let step = c.loop-refex.invariant ∙ at_drop_more (λ (xs : List (List ℕ)). pushed c.args.line.now c.args.perm c.loop-refex.rules (rest xs)) c.args.refexes.now c.loop-refex.refex-index c.refex-item.result c.loop-refex-test.true in
    rw (p.1, p.2) (fails_on (Unit {0}) (Unit {0}) _ c.args.line.now c.args.perm c.loop-refex.rules _ (for_users c.args.repo.now c.refex-item.result c.args.users.now) (rest (drop (c.loop-refex.refex-index + 1) c.args.refexes.now)) _ (rw (← c.refex-item.is) at step) c.in_err-push_users.ensures)

pub loop-refex-preserved : goal.loop-refex-preserved
loop-refex-preserved c =
    let rest = λ (xs : List (List ℕ)). for_refexes c.args.repo.now xs c.args.users.now in
    let step = c.loop-refex.invariant ∙ at_drop_more (λ (xs : List (List ℕ)). pushed c.args.line.now c.args.perm c.loop-refex.rules (rest xs)) c.args.refexes.now c.loop-refex.refex-index c.refex-item.result c.loop-refex-test.true in
    (rw (← c.refex-item.is) at step) ∙ pushed_on c.args.line.now c.args.perm c.loop-refex.rules c.push_users.new.rules (for_users c.args.repo.now c.refex-item.result c.args.users.now) (rest (drop (c.loop-refex.refex-index + 1) c.args.refexes.now)) c.in_ok-push_users.ensures
