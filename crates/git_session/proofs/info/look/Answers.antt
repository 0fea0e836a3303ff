use Rattle.session_core.proofs.GateLemmas.{lets_in_none, lets_in_one}
use Rattle.session_core.proofs.RulebookLemmas.{memory_by}
use Rattle.git_session.proofs.InfoLemmas.{looked_then}
use Rattle.git_session.proofs.info.look.Goals as goal

pub returns-in-Lines-clause-runs : goal.returns-in-Lines-clause-runs
returns-in-Lines-clause-runs g c = looked_then c.hold_laws.ensures.one _ _ _ _ c.args.user.now c.in-Lines.lines _ c.in-Lines.ensures.answers (c.tell_lines.ensures.runs _)

pub returns-in-NoMemory-clause-runs : goal.returns-in-NoMemory-clause-runs
returns-in-NoMemory-clause-runs g c = rw c.in-NoMemory.ensures.answers.1 (memory_by _ _ _)

pub returns-in-Lines-clause-lets_in : goal.returns-in-Lines-clause-lets_in
returns-in-Lines-clause-lets_in g c = lets_in_one _ _ _ _ c.in-Lines.ensures.answers.1

pub returns-in-NoMemory-clause-lets_in : goal.returns-in-NoMemory-clause-lets_in
returns-in-NoMemory-clause-lets_in g c = lets_in_none _ _ c.in-NoMemory.ensures.answers.1
