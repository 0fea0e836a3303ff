use Rattle.std.proofs.Common.{◌+◌, List, drop, ◌∙◌}
use Rattle.std.proofs.lemmas.List.{at_drop_more}
use Rattle.std.proofs.lemmas.Result.{err_from_is_err_and}
use Rattle.rule_compile.specs.Flat.{pushed, for_refexes, for_words}
use Rattle.rule_compile.specs.declared.rule.RepoWord.{RepoWord}
use Rattle.rule_compile.proofs.PushLemmas.{pushed_on, fails_on}
use Rattle.rule_compile.proofs.draft.push_words.Goals as goal

pub returns-in_err-push_refexes : goal.returns-in_err-push_refexes
returns-in_err-push_refexes c =
    let p = err_from_is_err_and c.from_residual.result c.from_residual.ensures.1 in
    let rest = λ (xs : List RepoWord). for_words xs c.args.refexes.now c.args.users.now in
    let step = c.loop-repo.invariant ∙ at_drop_more (λ (xs : List RepoWord). pushed c.args.line.now c.args.perm c.loop-repo.rules (rest xs)) c.args.words.now c.loop-repo.repo-index c.repo-item.result c.loop-repo-test.true in
    rw (p.1, p.2) (fails_on (Unit {0}) (Unit {0}) _ c.args.line.now c.args.perm c.loop-repo.rules _ (for_refexes c.repo-item.result c.args.refexes.now c.args.users.now) (rest (drop (c.loop-repo.repo-index + 1) c.args.words.now)) _ (rw (← c.repo-item.is) at step) c.in_err-push_refexes.ensures)

pub loop-repo-preserved : goal.loop-repo-preserved
loop-repo-preserved c =
    let rest = λ (xs : List RepoWord). for_words xs c.args.refexes.now c.args.users.now in
    let step = c.loop-repo.invariant ∙ at_drop_more (λ (xs : List RepoWord). pushed c.args.line.now c.args.perm c.loop-repo.rules (rest xs)) c.args.words.now c.loop-repo.repo-index c.repo-item.result c.loop-repo-test.true in
    (rw (← c.repo-item.is) at step) ∙ pushed_on c.args.line.now c.args.perm c.loop-repo.rules c.push_refexes.new.rules (for_refexes c.repo-item.result c.args.refexes.now c.args.users.now) (rest (drop (c.loop-repo.repo-index + 1) c.args.words.now)) c.in_ok-push_refexes.ensures
