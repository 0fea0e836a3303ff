use Rattle.vref.proofs.PathLemmas.{tells, tells_one}
use Rattle.vref.proofs.paths.paths_between.Goals as goal

pub returns-in-Ok-of_walk : goal.returns-in-Ok-of_walk
returns-in-Ok-of_walk c = tells c.args.lens.now c.args.old c.args.new c.in-Ok.walked.rows.items c.in-Ok.walked.order.items c.in-Ok.ensures c.in-Ok-of_walk.paths c.in-Ok-of_walk.ensures

pub returns-then-are_one : goal.returns-then-are_one
returns-then-are_one c = tells_one c.args.lens.now c.args.old c.args.new c.new.result (c.are_one.ensures.0 c.if-are_one.true) c.new.ensures
