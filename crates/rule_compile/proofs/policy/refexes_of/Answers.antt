use Rattle.std.proofs.Common.{◌++◌, ◌∷◌, [], List, ℕ, map, sym, subst, take, ap, ◌∙◌}
use Rattle.rule_compile.specs.Index.{refex_of}
use Rattle.rule_compile.specs.Sound.{IsSoundRule}
use Rattle.rule_compile.proofs.IndexLemmas.{all_at, one_more_taken}
use Rattle.rule_compile.proofs.policy.refexes_of.Goals as goal

pub known_refex-requires : goal.known_refex-requires
known_refex-requires c = (subst IsSoundRule (sym c.rule-item.is) (all_at IsSoundRule c.args.rules.now c.loop-rule.rule-index c.rule-item.result c.requires c.loop-rule-test.true)).1

pub loop-rule-preserved : goal.loop-rule-preserved
loop-rule-preserved c =
    let before = map refex_of (take c.loop-rule.rule-index c.args.rules.now) in
    c.in_ok-push.ensures.ok
    ∙ ap (λ (ts : List (List ℕ)). ts ++ c.in_ok-known_refex.field-0 ∷ []) c.loop-rule.invariant
    ∙ ap (λ (t : List ℕ). before ++ t ∷ []) c.in_ok-known_refex.ensures
    ∙ one_more_taken refex_of [] c.args.rules.now c.loop-rule.rule-index c.rule-item.result c.loop-rule-test.true c.rule-item.is
