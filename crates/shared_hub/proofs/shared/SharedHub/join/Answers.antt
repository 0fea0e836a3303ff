use Rattle.turn_lock.specs.Lock.{seen}
use Rattle.shared_hub.proofs.PassLemmas.{log_grows, same_entries}
use Rattle.shared_hub.proofs.shared.SharedHub.join.Goals as goal

pub returns-clause-keeps : goal.returns-clause-keeps
returns-clause-keeps g c = λ n own. same_entries c.join.new.into c.args.into.now n (c.join.ensures.keeps n own)

pub returns-clause-other_keeps : goal.returns-clause-other_keeps
returns-clause-other_keeps g c = λ n own. same_entries c.join.new.into c.args.other n (c.join.ensures.other_keeps n own)

pub returns-clause-grows : goal.returns-clause-grows
returns-clause-grows g c = log_grows c.args.into.now.numbers (seen c.args.into.now) (seen c.join.new.into) c.join.ensures.grows

pub returns-clause-other_grows : goal.returns-clause-other_grows
returns-clause-other_grows g c = log_grows c.args.other.numbers (seen c.args.other) (seen c.join.new.into) c.join.ensures.other_grows
