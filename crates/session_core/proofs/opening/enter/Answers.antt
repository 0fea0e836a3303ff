use Rattle.session_core.proofs.StepLemmas.{refused}
use Rattle.session_core.proofs.RulebookLemmas.{memory_by}
use Rattle.session_core.proofs.GateLemmas.{lets_in_none, lets_in_one}
use Rattle.session_core.proofs.OpeningLemmas.{granted_then, created_then, denied_then, no_repo_then, short_after, stands_after}
use Rattle.session_core.proofs.opening.enter.Goals as goal

pub returns-in-Granted-clause-runs : goal.returns-in-Granted-clause-runs
returns-in-Granted-clause-runs g c = granted_then _ _ _ c.args.user.now c.args.repo.now _ c.in-Granted.pin c.in-Granted.ensures.answers

pub returns-in-Created-clause-runs : goal.returns-in-Created-clause-runs
returns-in-Created-clause-runs g c = created_then _ _ _ c.args.user.now c.args.repo.now _ c.in-Created.pin c.in-Created.ensures.answers

pub returns-in-Denied-clause-runs : goal.returns-in-Denied-clause-runs
returns-in-Denied-clause-runs g c = denied_then _ _ _ _ c.args.user.now c.args.repo.now _ _ c.hold_laws.ensures.one c.in-Denied.verdict _ _ c.in-Denied.ensures.answers c.policy.ensures (refused _ _ _ _ _ _ (c.refuse_denied.ensures.runs _))

pub returns-in-NoRepo-clause-runs : goal.returns-in-NoRepo-clause-runs
returns-in-NoRepo-clause-runs g c = no_repo_then _ _ _ _ c.args.user.now c.args.repo.now _ _ c.in-NoRepo.ensures.answers (refused _ _ _ _ _ _ (c.refuse.ensures.runs _))

pub returns-in-NoMemory-clause-runs : goal.returns-in-NoMemory-clause-runs
returns-in-NoMemory-clause-runs g c = rw c.in-NoMemory.ensures.answers.1 (memory_by _ _ _)

pub returns-in-Granted-clause-names : goal.returns-in-Granted-clause-names
returns-in-Granted-clause-names g c = short_after c.hold_laws.ensures.short _ _ _ _ c.in-Granted.pin c.in-Granted.ensures.answers.1 c.in-Granted.ensures.answers.2.stands

pub returns-in-Created-clause-names : goal.returns-in-Created-clause-names
returns-in-Created-clause-names g c = short_after c.hold_laws.ensures.short _ _ _ _ c.in-Created.pin c.in-Created.ensures.answers.1 c.in-Created.ensures.answers.2.stands

pub returns-in-Granted-clause-somewhere : goal.returns-in-Granted-clause-somewhere
returns-in-Granted-clause-somewhere g c = stands_after _ _ _ _ c.in-Granted.pin c.in-Granted.ensures.answers.1 c.in-Granted.ensures.answers.2.stands

pub returns-in-Created-clause-somewhere : goal.returns-in-Created-clause-somewhere
returns-in-Created-clause-somewhere g c = stands_after _ _ _ _ c.in-Created.pin c.in-Created.ensures.answers.1 c.in-Created.ensures.answers.2.stands

pub returns-in-Granted-clause-lets_in : goal.returns-in-Granted-clause-lets_in
returns-in-Granted-clause-lets_in g c = rw c.in-Granted.ensures.answers.2.place (lets_in_one _ _ _ _ c.in-Granted.ensures.answers.1)

pub returns-in-Created-clause-lets_in : goal.returns-in-Created-clause-lets_in
returns-in-Created-clause-lets_in g c = rw c.in-Created.ensures.answers.2.place (lets_in_one _ _ _ _ c.in-Created.ensures.answers.1)

pub returns-in-Denied-clause-lets_in : goal.returns-in-Denied-clause-lets_in
returns-in-Denied-clause-lets_in g c = lets_in_one _ _ _ _ c.in-Denied.ensures.answers.1

pub returns-in-NoRepo-clause-lets_in : goal.returns-in-NoRepo-clause-lets_in
returns-in-NoRepo-clause-lets_in g c = lets_in_one _ _ _ _ c.in-NoRepo.ensures.answers.1

pub returns-in-NoMemory-clause-lets_in : goal.returns-in-NoMemory-clause-lets_in
returns-in-NoMemory-clause-lets_in g c = lets_in_none _ _ c.in-NoMemory.ensures.answers.1
