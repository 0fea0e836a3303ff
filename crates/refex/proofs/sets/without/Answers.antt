use Rattle.refex.proofs.SetLemmas.{cleared}
use Rattle.refex.proofs.sets.without.Goals as goal

pub returns-clause-less : goal.returns-clause-less
returns-clause-less c = (cleared c.args.set c.args.position c.requires.1 c.requires.0).0

pub returns-clause-gone : goal.returns-clause-gone
returns-clause-gone c = (cleared c.args.set c.args.position c.requires.1 c.requires.0).2

pub returns-clause-others : goal.returns-clause-others
returns-clause-others c = (cleared c.args.set c.args.position c.requires.1 c.requires.0).1
