use Rattle.std.proofs.Common.{◌∙◌}
use Rattle.push_settling.proofs.RunningLemmas.{ran_moved, ran_stale, ran_beside}
use Rattle.push_settling.proofs.settling.move_one.Goals as goal

pub returns-in-Moved-clause-outcome : goal.returns-in-Moved-clause-outcome
returns-in-Moved-clause-outcome c = (ran_moved c.args.repo.now c.apply.new.self c.args.command.now c.known-name.result (c.known-name.ensures ∙ c.in_ok-clone.ensures.cases) c.in-Moved.ensures.told c.in-Moved.ensures.repo).0

pub returns-in-Moved-clause-repo : goal.returns-in-Moved-clause-repo
returns-in-Moved-clause-repo c = (ran_moved c.args.repo.now c.apply.new.self c.args.command.now c.known-name.result (c.known-name.ensures ∙ c.in_ok-clone.ensures.cases) c.in-Moved.ensures.told c.in-Moved.ensures.repo).1

pub returns-in-Stale-clause-outcome : goal.returns-in-Stale-clause-outcome
returns-in-Stale-clause-outcome c = (ran_stale c.args.repo.now c.apply.new.self c.args.command.now c.known-name.result c.in-Stale.value (c.known-name.ensures ∙ c.in_ok-clone.ensures.cases) c.in-Stale.ensures.told c.in-Stale.ensures.repo).0

pub returns-in-Stale-clause-repo : goal.returns-in-Stale-clause-repo
returns-in-Stale-clause-repo c = (ran_stale c.args.repo.now c.apply.new.self c.args.command.now c.known-name.result c.in-Stale.value (c.known-name.ensures ∙ c.in_ok-clone.ensures.cases) c.in-Stale.ensures.told c.in-Stale.ensures.repo).1

pub returns-in-DirFile-clause-outcome : goal.returns-in-DirFile-clause-outcome
returns-in-DirFile-clause-outcome c = (ran_beside c.args.repo.now c.apply.new.self c.args.command.now c.known-name.result c.in-DirFile.other (c.known-name.ensures ∙ c.in_ok-clone.ensures.cases) c.in-DirFile.ensures.told c.in-DirFile.ensures.repo).0

pub returns-in-DirFile-clause-repo : goal.returns-in-DirFile-clause-repo
returns-in-DirFile-clause-repo c = (ran_beside c.args.repo.now c.apply.new.self c.args.command.now c.known-name.result c.in-DirFile.other (c.known-name.ensures ∙ c.in_ok-clone.ensures.cases) c.in-DirFile.ensures.told c.in-DirFile.ensures.repo).1
