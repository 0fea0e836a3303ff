use Rattle.std.proofs.Common.{Some, subst}
use Rattle.update_check.specs.Check.{CheckView}
use Rattle.update_check.specs.Rules.{AreChanges}
use Rattle.update_check.proofs.CheckLemmas.{if_ok}
use Rattle.update_check.proofs.check.UpdateCheck.refusal_of_trees.Goals as goal

pub returns-in-Listed : goal.returns-in-Listed
returns-in-Listed c = if_ok c.refusal_of_first.result c.refusal_of_first.ensures (λ said is ps ok. (Some c.in-Listed.paths, subst (λ (v : CheckView). AreChanges v.objects c.args.change.now.old c.args.change.now.new (Some c.in-Listed.paths)) c.self.view_is c.in-Listed.ensures, is ps ok))
