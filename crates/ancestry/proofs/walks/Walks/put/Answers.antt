use Rattle.std.proofs.Common.{List, sym, subst}
use Rattle.std.proofs.lemmas.Option.{IfSome_then}
use Rattle.git_object.specs.Content.{Content}
use Rattle.ancestry.specs.Generations.{HasGeneration}
use Rattle.ancestry.specs.Known.{IsRight}
use Rattle.ancestry.proofs.GenerationLemmas.{generation_of_object}
use Rattle.ancestry.proofs.walks.Walks.put.Goals as goal

pub invariant_of-self : goal.invariant_of-self
invariant_of-self c =
    let objects = c.self.inside.lens.now in
    let all = c.args.self.now in (
      c.self.invariant.0,
      c.insert.ensures objects c.self.invariant.1 (subst (λ (os : List Content). IsRight os c.args.id c.args.verdict) (sym c.self.view_is) c.requires.verdict)
          (IfSome_then c.generation_of-generation.result c.generation_of-generation.ensures
          (λ n after. subst (λ (os : List Content). HasGeneration os c.args.id n) (sym c.self.view_is) (generation_of_object all c.args.id c.args.object.now n c.requires.object after))),
    )
