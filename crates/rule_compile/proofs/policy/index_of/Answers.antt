use Rattle.std.proofs.Common.{[], List, sym, subst}
use Rattle.rule_compile.specs.Index.{word_of}
use Rattle.rule_compile.specs.Sound.{IsSoundRule}
use Rattle.rule_compile.specs.WordIndex.{Indexes}
use Rattle.rule_compile.specs.declared.rule.RepoWord.{RepoWord}
use Rattle.rule_compile.proofs.IndexLemmas.{all_at, one_more_taken}
use Rattle.rule_compile.proofs.policy.index_of.Goals as goal

pub with_next-requires : goal.with_next-requires
with_next-requires c = (subst IsSoundRule (sym c.rule-item.is) (all_at IsSoundRule c.args.rules.now c.loop-rule.rule-index c.rule-item.result c.requires c.loop-rule-test.true)).0

pub loop-rule-preserved : goal.loop-rule-preserved
loop-rule-preserved c =
    subst (λ (words : List RepoWord). Indexes c.in_ok-index.index words)
    (one_more_taken word_of [] c.args.rules.now c.loop-rule.rule-index c.rule-item.result c.loop-rule-test.true c.rule-item.is)
    (c.in_ok-index.ensures _ c.loop-rule.invariant)
