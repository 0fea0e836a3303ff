use Rattle.std.proofs.Common.{List, subst}
use Rattle.git_object.specs.Content.{Content}
use Rattle.ancestry.specs.Known.{IsRight}
use Rattle.ancestry.proofs.walks.Walks.settled.Goals as goal

pub returns-in-Some : goal.returns-in-Some
returns-in-Some c = subst (λ (os : List Content). IsRight os c.args.id c.in-Some.verdict) c.self.view_is (c.in-Some.ensures c.self.inside.lens.now c.self.invariant.1)
