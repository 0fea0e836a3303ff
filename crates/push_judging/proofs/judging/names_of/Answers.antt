use Rattle.push_judging.proofs.CountingLemmas.{counted_several, none_several}
use Rattle.push_judging.proofs.judging.names_of.Goals as goal

pub returns-then-ascend : goal.returns-then-ascend
returns-then-ascend c = none_several c.new.result c.args.commands.now c.new.ensures (c.ascend.ensures (c.if-ascend.true))

pub returns : goal.returns
returns c = counted_several c.args.commands.now c.counted_names.result c.counted_names.ensures
