use Rattle.ancestry.proofs.AboveLemmas.{floor_known, floor_none}
use Rattle.ancestry.proofs.generations.floor_of.Goals as goal

pub returns-in-Some : goal.returns-in-Some
returns-in-Some c = λ objects are. floor_known objects c.args.known.now c.args.old c.in-Some.generation are (c.in-Some.ensures.right objects are)

pub returns-in-None : goal.returns-in-None
returns-in-None c = λ objects are. floor_none objects c.args.known.now c.args.old
