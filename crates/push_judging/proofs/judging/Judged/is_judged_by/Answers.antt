use Rattle.std.proofs.Common.{◌∙◌, sym, ap}
use Rattle.std.proofs.lemmas.Result.{IfOk-weaker}
use Rattle.push_judging.specs.Again.{view_of}
use Rattle.push_judging.specs.Judged.{Judgement}
use Rattle.push_judging.proofs.AlikeLemmas.{judged_by}
use Rattle.push_judging.proofs.judging.Judged.is_judged_by.Goals as goal

pub returns-in-Some-clause-is : goal.returns-in-Some-clause-is
returns-in-Some-clause-is c =
    IfOk-weaker c.are_alike.result _ _
    (λ is same yes.
    judged_by c.args.self.now (record { wild = c.in-Some.again.wild; outcomes = c.in-Some.again.told.outcomes.items; confs = c.in-Some.again.told.confs.items }) c.args.wild.now
    (sym (ap (λ (j : Judgement). j.again) c.self.view_is) ∙ ap view_of c.in-Some.is) (same yes))
    c.are_alike.ensures.are
