use Rattle.std.proofs.Common.{arith, sym}
use Rattle.std.proofs.lemmas.Bool.Decides.{nat_tests}
use Rattle.ancestry.proofs.AboveLemmas.{high_known, high_child}
use Rattle.ancestry.proofs.generations.is_high.Goals as goal

pub returns-in-Some : goal.returns-in-Some
returns-in-Some c = λ is. high_known c.args.lens.now c.args.least c.in-Some.generation c.args.id (c.in-Some.ensures.right c.args.lens.now c.requires.known) (grind (arith, nat_tests, is))

pub returns-in-Some-get : goal.returns-in-Some-get
returns-in-Some-get c = λ is. let parent = c.has_parent_among.ensures is in high_child c.args.lens.now c.args.least c.args.id c.in-Some-get.commit.now parent.0 (sym c.in-Some-get.ensures) parent.1 (c.requires.high parent.0 parent.2)
