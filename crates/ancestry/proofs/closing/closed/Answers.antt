use Rattle.std.proofs.lemmas.Result.{IfOk-weaker}
use Rattle.ancestry.proofs.ClosureLemmas.{closes_of}
use Rattle.ancestry.proofs.closing.closed.Goals as goal

pub returns : goal.returns
returns c =
    IfOk-weaker c.with_walked.result _ _
    (λ after walked. closes_of c.args.front.now c.args.kept.now c.args.roots.now c.requires.kept c.args.before.now c.requires.closed c.in_ok-met.met c.in_ok-met.ensures c.in_ok-set.set c.in_ok-set.ensures after walked) c.with_walked.ensures
