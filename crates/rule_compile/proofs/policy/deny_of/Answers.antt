use Rattle.std.proofs.Common.{List, sym, subst}
use Rattle.std.specs.Prelude.{codes}
use Rattle.rule_compile.specs.OptionWords.{IsOption}
use Rattle.rule_compile.specs.Index.{OptionWord}
use Rattle.rule_compile.specs.Sound.{IsSoundOption}
use Rattle.rule_compile.proofs.IndexLemmas.{all_at, option_words_taken}
use Rattle.rule_compile.proofs.policy.deny_of.Goals as goal

pub with_deny_line-requires : goal.with_deny_line-requires
with_deny_line-requires c = subst IsSoundOption (sym c.line-item.is) (all_at IsSoundOption c.args.options.now c.loop-line.line-index c.line-item.result c.requires c.loop-line-test.true)

pub loop-line-preserved : goal.loop-line-preserved
loop-line-preserved c =
    subst (λ (ds : List OptionWord). IsOption c.in_ok-deny.deny ds)
    (option_words_taken (codes "deny-rules") c.args.options.now c.loop-line.line-index c.line-item.result c.loop-line-test.true c.line-item.is)
    (c.in_ok-deny.ensures _ c.loop-line.invariant)
