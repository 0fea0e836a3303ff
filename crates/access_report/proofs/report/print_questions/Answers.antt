use Rattle.std.proofs.Common.{◌≡◌, ◌∙◌, ◌<◌, ℕ, Err, add-one, refl, rules, subst}
use Rattle.pktline_core.proofs.LinkLemmas.{later_more}
use Rattle.access_report.specs.Answers.{listed, question_at, questions_below}
use Rattle.access_report.specs.Lists.{count}
use Rattle.access_report.specs.Text.{question_line}
use Rattle.access_report.proofs.ReportLemmas.{step_handed, step_stopped}
use Rattle.access_report.proofs.report.print_questions.Goals as goal

pub returns-in_err-print_at-clause-err : goal.returns-in_err-print_at-clause-err
returns-in_err-print_at-clause-err g c =
    let answer : c.from_residual.result ≡ Err c.in_err-print_at.field-0.0 = search rules in
    rw answer (λ ps are.
    step_stopped _ _ _ _ c.loop-at.invariant.later (question_line c.args.asked.now) (λ n. listed (question_at ps c.args.policy.now c.args.asked.now n)) (questions_below ps c.args.policy.now c.args.asked.now) (λ n. refl)
    c.loop-at.at (count c.args.asked.now) (c.loop-at.invariant.handed ps are) _ _ (subst (λ (n : ℕ). c.loop-at.at < n) c.count-at-end.ensures.count c.loop-at-test.true) (c.in_err-print_at.ensures.err ps are))

pub loop-at-preserved : goal.loop-at-preserved
loop-at-preserved g c = record {
  handed = λ ps are. rw add-one
      (step_handed _ _ _ _ c.loop-at.invariant.later (question_line c.args.asked.now) (λ n. listed (question_at ps c.args.policy.now c.args.asked.now n)) (questions_below ps c.args.policy.now c.args.asked.now) (λ n. refl)
      c.loop-at.at (count c.args.asked.now) (c.loop-at.invariant.handed ps are) _ _ (c.in_ok-print_at.ensures.ok ps are));
  deciding = λ ps are. rw add-one (c.print_at.ensures.marks ps are (questions_below ps c.args.policy.now c.args.asked.now c.loop-at.at) (c.loop-at.invariant.deciding ps are));
  same_length = c.print_at.ensures.length ∙ c.loop-at.invariant.same_length;
  remembers = c.print_at.ensures.remembers;
  tells = c.in_ok-print_at.ensures.tells ∙ c.loop-at.invariant.tells;
  later = later_more _ _ _ c.loop-at.invariant.later c.print_at.ensures.later;
}
