use Rattle.std.proofs.Common.{Option, subst}
use Rattle.std.specs.Prelude.{IfSome}
use Rattle.ancestry.specs.declared.runs.Runs.{Runs}
use Rattle.ancestry.specs.Closures.{IsClosure}
use Rattle.ancestry.proofs.ClosureLemmas.{closures_more}
use Rattle.ancestry.proofs.closures.add_one.Goals as goal

pub returns : goal.returns
returns c =
    closures_more c.args.repo.now.objects c.args.made.now c.push.new.self c.args.id c.in-Some.runs c.requires.made (subst (λ (o : Option Runs). IfSome o (IsClosure c.args.repo.now.objects c.args.id)) c.in-Some.is c.in_ok-runs.ensures) c.in_ok-push.ensures
