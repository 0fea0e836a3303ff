use Rattle.std.proofs.Common.{◌++◌, List, ℕ, ap, ◌∙◌}
use Rattle.std.proofs.lemmas.List.{at_drop_more}
use Rattle.rule_compile.specs.Words.{prefixed, with_prefix}
use Rattle.rule_compile.proofs.ListLemmas.{one_more}
use Rattle.rule_compile.proofs.words.prefixed.Goals as goal

pub loop-word-preserved : goal.loop-word-preserved
loop-word-preserved c =
    let step = c.loop-word.invariant ∙ at_drop_more (λ (xs : List (List ℕ)). c.loop-word.texts ++ prefixed xs) c.args.words.now c.loop-word.word-index c.word-item.result c.loop-word-test.true in
    (rw (← c.word-item.is) at step) ∙ one_more _ _ _ _ _ c.in_ok-push.ensures.ok (c.in_ok-with_prefix.ensures ∙ ap with_prefix c.bytes.ensures)
