use Rattle.std.proofs.Common.{List, ◌||◌, ◌&&◌, sym, ap, ◌∙◌, subst}
use Rattle.std.specs.List.{find}
use Rattle.rule_compile.specs.Covering.{may_cover}
use Rattle.rule_compile.specs.declared.rule.Rule.{Rule}
use Rattle.access_check.specs.Letters.{grants}
use Rattle.access_check.specs.Questions.{AllLead, asked_by}
use Rattle.access_check.specs.Verdicts.{decides, verdict_of}
use Rattle.access_check.proofs.RuleLemmas.{asks_some, find_kept, lead_first, lead_rest, pass_over, run_out, stop_at}
use Rattle.access_check.proofs.deciding.verdict_on_ref.Goals as goal

pub loop-rule-init : goal.loop-rule-init
loop-rule-init c = record {
  numbers = subst (λ (some : List Rule). AllLead c.args.policy.now.rules some) (sym c.into_iter-rule-iterator.ensures.into_iter_gives) c.candidates-rule-items.ensures.numbers;
  left = λ ps ok.
      let a = asked_by ps c.args.question.now in
      ap (λ (some : List Rule). find (decides ps a c.args.letter c.args.name.now) some) (c.into_iter-rule-iterator.ensures.into_iter_gives ∙ c.candidates-rule-items.ensures.rules)
      ∙ find_kept (decides ps a c.args.letter c.args.name.now) (λ (rule : Rule). may_cover a.repo rule.repo) (λ rule other. asks_some ps a (λ (r : Rule). ps.starts r.refex a.user c.args.name.now && (r.perm.deny || grants r.perm c.args.letter)) rule other) c.args.policy.now.rules;
}

pub decides-requires : goal.decides-requires
decides-requires c = lead_first c.args.policy.now.rules c.in-Some.rule.now c.next.new.self c.loop-rule.rule-iterator c.in-Some.ensures.steps c.loop-rule.invariant.numbers

pub loop-rule-preserved : goal.loop-rule-preserved
loop-rule-preserved c = record {
  numbers = lead_rest c.args.policy.now.rules c.in-Some.rule.now c.next.new.self c.loop-rule.rule-iterator c.in-Some.ensures.steps c.loop-rule.invariant.numbers;
  left = λ ps ok.
      pass_over (decides ps (asked_by ps c.args.question.now) c.args.letter c.args.name.now) c.in-Some.rule.now c.next.new.self c.loop-rule.rule-iterator c.args.policy.now.rules c.in-Some.ensures.steps
      (sym (c.decides.ensures ps ok) ∙ c.if-decides.false) (c.loop-rule.invariant.left ps ok);
}

pub returns-then-decides : goal.returns-then-decides
returns-then-decides c = λ ps ok.
    c.verdict_of.ensures
    ∙ ap verdict_of
    (stop_at (decides ps (asked_by ps c.args.question.now) c.args.letter c.args.name.now) c.in-Some.rule.now c.next.new.self c.loop-rule.rule-iterator c.args.policy.now.rules c.in-Some.ensures.steps
    (sym (c.decides.ensures ps ok) ∙ c.if-decides.true) (c.loop-rule.invariant.left ps ok))

pub returns : goal.returns
returns c = λ ps ok.
    ap verdict_of (run_out (decides ps (asked_by ps c.args.question.now) c.args.letter c.args.name.now) c.loop-rule.rule-iterator c.args.policy.now.rules c.in-None.ensures.steps.0 (c.loop-rule.invariant.left ps ok))
