use Rattle.turn_lock.proofs.turn.take.Goals as goal

pub returns-then-try_take-clause-tries : goal.returns-then-try_take-clause-tries
returns-then-try_take-clause-tries g c = rw c.loop.invariant.me at c.if-try_take.ensures.tries
