use Rattle.std.proofs.Common.{List, Bool, sym, ap, ◌∙◌, subst}
use Rattle.std.specs.Prelude.{if◌then◌else◌}
use Rattle.std.specs.List.{find}
use Rattle.rule_compile.specs.Covering.{may_cover}
use Rattle.rule_compile.specs.declared.rule.Rule.{Rule}
use Rattle.access_check.specs.Questions.{AllLead, asked_by}
use Rattle.access_check.specs.Verdicts.{opening_decides, opens, verdict_of}
use Rattle.access_check.proofs.RuleLemmas.{asks_some, find_kept, lead_first, lead_rest, pass_over, run_out, stop_at}
use Rattle.access_check.proofs.opening.verdict_on_opening.Goals as goal

pub loop-rule-init : goal.loop-rule-init
loop-rule-init c = record {
  numbers = subst (λ (some : List Rule). AllLead c.args.policy.now.rules some) (sym c.into_iter-rule-iterator.ensures.into_iter_gives) c.candidates-rule-items.ensures.numbers;
  left = λ ps ok.
      let a = asked_by ps c.args.question.now in
      ap (λ (some : List Rule). find (opening_decides ps a c.deny_rules-deny_counts.result c.args.want) some) (c.into_iter-rule-iterator.ensures.into_iter_gives ∙ c.candidates-rule-items.ensures.rules)
      ∙ find_kept (opening_decides ps a c.deny_rules-deny_counts.result c.args.want) (λ (rule : Rule). may_cover a.repo rule.repo) (λ rule other. asks_some ps a (λ (r : Rule). if r.perm.deny then c.deny_rules-deny_counts.result else opens r.perm c.args.want) rule other) c.args.policy.now.rules;
}

pub opening_decides-requires : goal.opening_decides-requires
opening_decides-requires c = lead_first c.args.policy.now.rules c.in-Some.rule.now c.next.new.self c.loop-rule.rule-iterator c.in-Some.ensures.steps c.loop-rule.invariant.numbers

pub loop-rule-preserved : goal.loop-rule-preserved
loop-rule-preserved c = record {
  numbers = lead_rest c.args.policy.now.rules c.in-Some.rule.now c.next.new.self c.loop-rule.rule-iterator c.in-Some.ensures.steps c.loop-rule.invariant.numbers;
  left = λ ps ok.
      pass_over (opening_decides ps (asked_by ps c.args.question.now) c.deny_rules-deny_counts.result c.args.want) c.in-Some.rule.now c.next.new.self c.loop-rule.rule-iterator c.args.policy.now.rules c.in-Some.ensures.steps
      (sym (c.opening_decides.ensures ps ok) ∙ c.if-opening_decides.false) (c.loop-rule.invariant.left ps ok);
}

pub returns-then-opening_decides : goal.returns-then-opening_decides
returns-then-opening_decides c = λ ps ok.
    c.verdict_of.ensures
    ∙ ap verdict_of
    (stop_at (opening_decides ps (asked_by ps c.args.question.now) c.deny_rules-deny_counts.result c.args.want) c.in-Some.rule.now c.next.new.self c.loop-rule.rule-iterator c.args.policy.now.rules c.in-Some.ensures.steps
    (sym (c.opening_decides.ensures ps ok) ∙ c.if-opening_decides.true) (c.loop-rule.invariant.left ps ok))
    ∙ ap (λ (b : Bool). verdict_of (find (opening_decides ps (asked_by ps c.args.question.now) b c.args.want) c.args.policy.now.rules)) (c.deny_rules-deny_counts.ensures ps ok)

pub returns : goal.returns
returns c = λ ps ok.
    ap verdict_of (run_out (opening_decides ps (asked_by ps c.args.question.now) c.deny_rules-deny_counts.result c.args.want) c.loop-rule.rule-iterator c.args.policy.now.rules c.in-None.ensures.steps.0 (c.loop-rule.invariant.left ps ok))
    ∙ ap (λ (b : Bool). verdict_of (find (opening_decides ps (asked_by ps c.args.question.now) b c.args.want) c.args.policy.now.rules)) (c.deny_rules-deny_counts.ensures ps ok)
