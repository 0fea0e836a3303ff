use Rattle.std.proofs.Common.{List, Bool, sym, ap, ◌∙◌, subst}
use Rattle.std.specs.Prelude.{if◌then◌else◌}
use Rattle.std.specs.List.{find}
use Rattle.rule_compile.specs.Covering.{may_cover}
use Rattle.rule_compile.specs.declared.rule.Rule.{Rule}
use Rattle.access_check.specs.Questions.{AllLead, asked_by}
use Rattle.access_check.specs.Verdicts.{creates, creating_decides, verdict_of}
use Rattle.access_check.proofs.RuleLemmas.{asks_some, find_kept, lead_first, lead_rest, pass_over, run_out, stop_at}
use Rattle.access_check.proofs.opening.verdict_on_creating.Goals as goal

pub loop-rule-init : goal.loop-rule-init
loop-rule-init c = record {
  numbers = subst (λ (some : List Rule). AllLead c.args.policy.now.rules some) (sym c.into_iter-rule-iterator.ensures.into_iter_gives) c.candidates-rule-items.ensures.numbers;
  left = λ ps ok.
      let a = asked_by ps c.args.question.now in
      ap (λ (some : List Rule). find (creating_decides ps a c.deny_rules-deny_counts.result) some) (c.into_iter-rule-iterator.ensures.into_iter_gives ∙ c.candidates-rule-items.ensures.rules)
      ∙ find_kept (creating_decides ps a c.deny_rules-deny_counts.result) (λ (rule : Rule). may_cover a.repo rule.repo) (λ rule other. asks_some ps a (λ (r : Rule). if r.perm.deny then c.deny_rules-deny_counts.result else creates r) rule other) c.args.policy.now.rules;
}

pub creating_decides-requires : goal.creating_decides-requires
creating_decides-requires c = lead_first c.args.policy.now.rules c.in-Some.rule.now c.next.new.self c.loop-rule.rule-iterator c.in-Some.ensures.steps c.loop-rule.invariant.numbers

pub loop-rule-preserved : goal.loop-rule-preserved
loop-rule-preserved c = record {
  numbers = lead_rest c.args.policy.now.rules c.in-Some.rule.now c.next.new.self c.loop-rule.rule-iterator c.in-Some.ensures.steps c.loop-rule.invariant.numbers;
  left = λ ps ok.
      pass_over (creating_decides ps (asked_by ps c.args.question.now) c.deny_rules-deny_counts.result) c.in-Some.rule.now c.next.new.self c.loop-rule.rule-iterator c.args.policy.now.rules c.in-Some.ensures.steps
      (sym (c.creating_decides.ensures ps ok) ∙ c.if-creating_decides.false) (c.loop-rule.invariant.left ps ok);
}

pub returns-then-creating_decides : goal.returns-then-creating_decides
returns-then-creating_decides c = λ ps ok.
    c.verdict_of.ensures
    ∙ ap verdict_of
    (stop_at (creating_decides ps (asked_by ps c.args.question.now) c.deny_rules-deny_counts.result) c.in-Some.rule.now c.next.new.self c.loop-rule.rule-iterator c.args.policy.now.rules c.in-Some.ensures.steps
    (sym (c.creating_decides.ensures ps ok) ∙ c.if-creating_decides.true) (c.loop-rule.invariant.left ps ok))
    ∙ ap (λ (b : Bool). verdict_of (find (creating_decides ps (asked_by ps c.args.question.now) b) c.args.policy.now.rules)) (c.deny_rules-deny_counts.ensures ps ok)

pub returns : goal.returns
returns c = λ ps ok.
    ap verdict_of (run_out (creating_decides ps (asked_by ps c.args.question.now) c.deny_rules-deny_counts.result) c.loop-rule.rule-iterator c.args.policy.now.rules c.in-None.ensures.steps.0 (c.loop-rule.invariant.left ps ok))
    ∙ ap (λ (b : Bool). verdict_of (find (creating_decides ps (asked_by ps c.args.question.now) b) c.args.policy.now.rules)) (c.deny_rules-deny_counts.ensures ps ok)
