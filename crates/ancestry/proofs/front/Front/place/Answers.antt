use Rattle.std.proofs.Common.{arith, sym}
use Rattle.ref_store.proofs.ObjectLemmas.{object_there}
use Rattle.ancestry.proofs.front.Front.place.Goals as goal

pub overflow_cast-result : goal.overflow_cast-result
overflow_cast-result c =
    let less = object_there c.self.inside.first_k c.self.inside.repo.now.objects c.args.id c.in-Some.at (sym c.in-Some.ensures) in
    omega (arith, less, c.count-count.ensures.count, c.count-count.ensures.few)

pub returns-in-Some-clause-small : goal.returns-in-Some-clause-small
returns-in-Some-clause-small c =
    let less = object_there c.self.inside.first_k c.self.inside.repo.now.objects c.args.id c.in-Some.at (sym c.in-Some.ensures) in
    omega (arith, less, c.count-count.ensures.count, c.count-count.ensures.few)
