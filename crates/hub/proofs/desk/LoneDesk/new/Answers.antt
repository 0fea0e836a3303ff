use Rattle.hub.proofs.DeskLemmas.{none_at_first}
use Rattle.hub.proofs.desk.LoneDesk.new.Goals as goal

pub returns-clause-none : goal.returns-clause-none
returns-clause-none c = rw (c.len-start.ensures, c.log.ensures.log) (none_at_first c.args.hub)
