use Rattle.stored_hub.proofs.StoredLemmas.{composes, stays}
use Rattle.stored_hub.proofs.laws.hold_laws.Goals as goal

pub returns-clause-stays : goal.returns-clause-stays
returns-clause-stays c modeled j = stays modeled j

pub returns-clause-composes : goal.returns-clause-composes
returns-clause-composes c modeled a b d one more = composes modeled a b d one more
