use Rattle.std.proofs.Common.{List, subst}
use Rattle.git_object.specs.Content.{Content}
use Rattle.ancestry.specs.Generations.{HasGeneration}
use Rattle.ancestry.proofs.walks.Walks.generation.Goals as goal

pub returns-in-Some : goal.returns-in-Some
returns-in-Some c = subst (λ (os : List Content). HasGeneration os c.args.id c.in-Some.generation) c.self.view_is (c.in-Some.ensures c.self.inside.lens.now c.self.invariant.1)
