use Rattle.std.proofs.Common.{◌≡◌, ◌∙◌, ◌<◌, ℕ, Err, add-one, arith, length-append, refl, rules, subst}
use Rattle.pktline_core.proofs.LinkLemmas.{later_more}
use Rattle.access_report.specs.Answers.{question_at}
use Rattle.access_report.specs.Lists.{count}
use Rattle.access_report.specs.Report.{changed, changes_below}
use Rattle.access_report.specs.Text.{change_line}
use Rattle.access_report.specs.declared.answers.Question.{Question}
use Rattle.access_report.proofs.ReportLemmas.{step_handed, step_stopped}
use Rattle.access_report.proofs.report.print_changes.Goals as goal

pub returns-in_err-changes-clause-err : goal.returns-in_err-changes-clause-err
returns-in_err-changes-clause-err g c =
    let answer : c.from_residual.result ≡ Err c.in_err-changes.field-0.0 = search rules in
    rw answer (λ ps are.
    step_stopped _ _ _ _ c.loop-at.invariant.later (λ (x : Question × Question). change_line c.args.asked.now x.0 x.1) (λ (n : ℕ). changed (question_at ps c.args.confs.now.first.now c.args.asked.now n) (question_at ps c.args.confs.now.second.now c.args.asked.now n)) (changes_below ps c.args.confs.now.first.now c.args.confs.now.second.now c.args.asked.now) (λ n. refl)
    c.loop-at.at (count c.args.asked.now) (c.loop-at.invariant.handed ps are) _ _ (subst (λ (n : ℕ). c.loop-at.at < n) c.count-at-end.ensures.count c.loop-at-test.true) (c.in_err-changes.ensures.err ps are))

pub loop-at-preserved : goal.loop-at-preserved
loop-at-preserved g c = record {
  handed = λ ps are. rw add-one
      (step_handed _ _ _ _ c.loop-at.invariant.later (λ (x : Question × Question). change_line c.args.asked.now x.0 x.1) (λ (n : ℕ). changed (question_at ps c.args.confs.now.first.now c.args.asked.now n) (question_at ps c.args.confs.now.second.now c.args.asked.now n)) (changes_below ps c.args.confs.now.first.now c.args.confs.now.second.now c.args.asked.now) (λ n. refl)
      c.loop-at.at (count c.args.asked.now) (c.loop-at.invariant.handed ps are) _ _ (c.in_ok-changes.ensures.ok ps are));
  counted = λ ps are. rw add-one
      (omega (arith, c.loop-at.invariant.counted ps are, c.in_ok-changes.ensures.count ps are, length-append (changes_below ps c.args.confs.now.first.now c.args.confs.now.second.now c.args.asked.now c.loop-at.at) (changed (question_at ps c.args.confs.now.first.now c.args.asked.now c.loop-at.at) (question_at ps c.args.confs.now.second.now c.args.asked.now c.loop-at.at))));
  few = omega (arith, c.loop-at.invariant.few, c.in_ok-changes.ensures.one);
  remember = c.print_change_at.ensures.remember;
  tells = c.in_ok-changes.ensures.tells ∙ c.loop-at.invariant.tells;
  later = later_more _ _ _ c.loop-at.invariant.later c.print_change_at.ensures.later;
}
