use Rattle.session_core.proofs.RulebookLemmas.{memory_by}
use Rattle.smart_http.proofs.PartLemmas.{part_of}
use Rattle.smart_http.proofs.EnterLemmas.{granted_part, created_part, denied_part, no_repo_part}
use Rattle.smart_http.proofs.serving.serve_request.Goals as goal

pub returns-in-Granted-clause-runs : goal.returns-in-Granted-clause-runs
returns-in-Granted-clause-runs g c = granted_part c.args.request _ _ _ _ _ c.in-Granted.pin _ (rw c.want_of-want.ensures at c.in-Granted.ensures.answers) c.respond.ensures.runs

pub returns-in-Granted-clause-goes : goal.returns-in-Granted-clause-goes
returns-in-Granted-clause-goes g c = g.met.K.Desk.composes _ _ _ c.enter.ensures.goes c.respond.ensures.goes

pub returns-in-Created-clause-runs : goal.returns-in-Created-clause-runs
returns-in-Created-clause-runs g c = created_part c.args.request _ _ _ _ _ c.in-Created.pin _ (rw c.want_of-want.ensures at c.in-Created.ensures.answers) c.respond-in-Created.ensures.runs

pub returns-in-Created-clause-goes : goal.returns-in-Created-clause-goes
returns-in-Created-clause-goes g c = g.met.K.Desk.composes _ _ _ c.enter.ensures.goes c.respond-in-Created.ensures.goes

pub returns-in-Denied-clause-runs : goal.returns-in-Denied-clause-runs
returns-in-Denied-clause-runs g c =
    denied_part c.args.request c.hold_laws.ensures.one _ _ _ _ c.in-Denied.verdict _ _ _ (rw c.want_of-want.ensures at c.in-Denied.ensures.answers) c.policy.ensures
    (rw (c.rule.ensures, c.want_of-want.ensures) at (c.refuse_denied.ensures.runs (g.K.Desk.view c.enter.new.self)))

pub returns-in-NoRepo-clause-runs : goal.returns-in-NoRepo-clause-runs
returns-in-NoRepo-clause-runs g c = no_repo_part c.args.request _ _ _ _ _ (rw c.want_of-want.ensures at c.in-NoRepo.ensures.answers) (c.refuse_with.ensures.runs _)

pub returns-clause-runs : goal.returns-clause-runs
returns-clause-runs g c = rw c.in-NoMemory.ensures.answers.1 (part_of _ _ _ _ _ _ (memory_by _ _ _))
