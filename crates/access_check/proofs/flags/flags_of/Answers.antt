use Rattle.std.proofs.Common.{ℕ, List, sym, ap, ◌∙◌, subst}
use Rattle.std.specs.Prelude.{Option}
use Rattle.std.specs.Option.{option_copied}
use Rattle.rule_compile.specs.declared.rule.Rule.{Rule}
use Rattle.access_check.specs.Letters.{flags_of}
use Rattle.access_check.specs.Questions.{AllLead, joined}
use Rattle.access_check.proofs.RuleLemmas.{flags_kept, flags_more, lead_rest, none_joined}
use Rattle.access_check.proofs.flags.flags_of.Goals as goal

pub loop-rule-init : goal.loop-rule-init
loop-rule-init c = record {
  numbers = subst (λ (some : List Rule). AllLead c.args.policy.now.rules some) (sym c.into_iter-rule-iterator.ensures.into_iter_gives) c.candidates-rule-items.ensures.numbers;
  left = λ ps ok.
      ap (λ (some : List Rule). flags_of ps some c.args.repo.now (option_copied c.creator-creator.result)) (c.into_iter-rule-iterator.ensures.into_iter_gives ∙ c.candidates-rule-items.ensures.rules)
      ∙ flags_kept ps c.args.policy.now.rules c.args.repo.now (option_copied c.creator-creator.result);
}

pub loop-rule-preserved : goal.loop-rule-preserved
loop-rule-preserved c = record {
  numbers = lead_rest c.args.policy.now.rules c.in-Some.rule.now c.next.new.self c.loop-rule.rule-iterator c.in-Some.ensures.steps c.loop-rule.invariant.numbers;
  left = λ ps ok.
      flags_more ps c.args.repo.now (option_copied c.creator-creator.result) c.loop-rule.flags c.with_rule-flags.result c.in-Some.rule.now c.next.new.self c.loop-rule.rule-iterator c.args.policy.now.rules
      c.in-Some.ensures.steps (c.with_rule-flags.ensures ps ok) (c.loop-rule.invariant.left ps ok);
}

pub returns : goal.returns
returns c = λ ps ok.
    sym (none_joined c.loop-rule.flags)
    ∙ sym (ap (λ (some : List Rule). joined c.loop-rule.flags (flags_of ps some c.args.repo.now (option_copied c.creator-creator.result))) c.in-None.ensures.steps.0)
    ∙ c.loop-rule.invariant.left ps ok
    ∙ ap (λ (creator : Option (List ℕ)). flags_of ps c.args.policy.now.rules c.args.repo.now creator) c.creator-creator.ensures
