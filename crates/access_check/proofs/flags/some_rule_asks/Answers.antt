use Rattle.std.proofs.Common.{List, sym, ap, ◌∙◌, subst}
use Rattle.std.specs.List.{list_any}
use Rattle.rule_compile.specs.Covering.{may_cover}
use Rattle.rule_compile.specs.declared.rule.Rule.{Rule}
use Rattle.access_check.specs.Questions.{AllLead, asked_by}
use Rattle.access_check.specs.Verdicts.{asks_vref, is_of_vref}
use Rattle.access_check.proofs.RuleLemmas.{any_kept, asks_some, lead_first, lead_rest, met_at, none_met, pass_by}
use Rattle.access_check.proofs.flags.some_rule_asks.Goals as goal

pub loop-rule-init : goal.loop-rule-init
loop-rule-init c = record {
  numbers = subst (λ (some : List Rule). AllLead c.args.policy.now.rules some) (sym c.into_iter-rule-iterator.ensures.into_iter_gives) c.candidates-rule-items.ensures.numbers;
  left = λ ps ok.
      let a = asked_by ps c.args.question.now in
      ap (λ (some : List Rule). list_any (asks_vref ps a c.args.which) some) (c.into_iter-rule-iterator.ensures.into_iter_gives ∙ c.candidates-rule-items.ensures.rules)
      ∙ any_kept (asks_vref ps a c.args.which) (λ (rule : Rule). may_cover a.repo rule.repo) (λ rule other. asks_some ps a (λ (r : Rule). is_of_vref c.args.which r.refex) rule other) c.args.policy.now.rules;
}

pub asks-requires : goal.asks-requires
asks-requires c = lead_first c.args.policy.now.rules c.in-Some.rule.now c.next.new.self c.loop-rule.rule-iterator c.in-Some.ensures.steps c.loop-rule.invariant.numbers

pub loop-rule-preserved : goal.loop-rule-preserved
loop-rule-preserved c = record {
  numbers = lead_rest c.args.policy.now.rules c.in-Some.rule.now c.next.new.self c.loop-rule.rule-iterator c.in-Some.ensures.steps c.loop-rule.invariant.numbers;
  left = λ ps ok.
      pass_by (asks_vref ps (asked_by ps c.args.question.now) c.args.which) c.in-Some.rule.now c.next.new.self c.loop-rule.rule-iterator c.args.policy.now.rules c.in-Some.ensures.steps
      (sym (c.asks.ensures ps ok) ∙ c.if-asks.false) (c.loop-rule.invariant.left ps ok);
}

pub returns-then-asks : goal.returns-then-asks
returns-then-asks c = λ ps ok.
    met_at (asks_vref ps (asked_by ps c.args.question.now) c.args.which) c.in-Some.rule.now c.next.new.self c.loop-rule.rule-iterator c.args.policy.now.rules c.in-Some.ensures.steps
    (sym (c.asks.ensures ps ok) ∙ c.if-asks.true) (c.loop-rule.invariant.left ps ok)

pub returns : goal.returns
returns c = λ ps ok.
    none_met (asks_vref ps (asked_by ps c.args.question.now) c.args.which) c.loop-rule.rule-iterator c.args.policy.now.rules c.in-None.ensures.steps.0 (c.loop-rule.invariant.left ps ok)
