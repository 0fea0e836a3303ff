use Rattle.std.proofs.Common.{refl}
use Rattle.wild_perms.specs.declared.answer.PermsAnswer.TheVariants as perms
use Rattle.hub_history.specs.declared.entry.PermsKept.TheVariants as kept
use Rattle.interaction_tree.proofs.RunLemmas.{runs_memory}
use Rattle.session_core.proofs.GateLemmas.{lets_in_none, lets_in_one}
use Rattle.git_session.specs.Perms.{perms_reply}
use Rattle.git_session.proofs.PermLemmas.{permitted_then}
use Rattle.git_session.proofs.perms.permit.Goals as goal

pub returns-in-Changed-clause-runs : goal.returns-in-Changed-clause-runs
unfolding perms_reply
returns-in-Changed-clause-runs g c = permitted_then _ _ _ _ c.args.user.now c.args.repo.now c.args.change perms.Changed kept.Changed _ refl c.in-Changed.ensures.answers (c.write_line.ensures.runs _)

pub returns-in-AlreadySo-clause-runs : goal.returns-in-AlreadySo-clause-runs
unfolding perms_reply
returns-in-AlreadySo-clause-runs g c = permitted_then _ _ _ _ c.args.user.now c.args.repo.now c.args.change perms.AlreadySo kept.AlreadySo _ refl c.in-AlreadySo.ensures.answers (c.write_line-in-AlreadySo.ensures.runs _)

pub returns-in-NotWild-clause-runs : goal.returns-in-NotWild-clause-runs
unfolding perms_reply
returns-in-NotWild-clause-runs g c = permitted_then _ _ _ _ c.args.user.now c.args.repo.now c.args.change perms.NotWild kept.NotWild _ refl c.in-NotWild.ensures.answers (c.write_line-in-NotWild.ensures.runs _)

pub returns-in-NotCreator-clause-runs : goal.returns-in-NotCreator-clause-runs
unfolding perms_reply
returns-in-NotCreator-clause-runs g c = permitted_then _ _ _ _ c.args.user.now c.args.repo.now c.args.change perms.NotCreator kept.NotCreator _ refl c.in-NotCreator.ensures.answers (c.write_line-in-NotCreator.ensures.runs _)

pub returns-in-NoSuchRole-clause-runs : goal.returns-in-NoSuchRole-clause-runs
unfolding perms_reply
returns-in-NoSuchRole-clause-runs g c = permitted_then _ _ _ _ c.args.user.now c.args.repo.now c.args.change perms.NoSuchRole kept.NoSuchRole _ refl c.in-NoSuchRole.ensures.answers (c.write_line-in-NoSuchRole.ensures.runs _)

pub returns-in-Listed-clause-runs : goal.returns-in-Listed-clause-runs
unfolding perms_reply
returns-in-Listed-clause-runs g c =
    permitted_then _ _ _ _ c.args.user.now c.args.repo.now c.args.change (perms.Listed c.in-Listed.roles) kept.Listed _ refl c.in-Listed.ensures.answers (rw (← c.in-Listed.ensures.answers.2) (c.tell_roles.ensures.runs _))

pub returns-in-NoMemory-clause-runs : goal.returns-in-NoMemory-clause-runs
returns-in-NoMemory-clause-runs g c = rw c.in-NoMemory.ensures.answers.1 (runs_memory _ _ _)

pub returns-in-Changed-clause-lets_in : goal.returns-in-Changed-clause-lets_in
returns-in-Changed-clause-lets_in g c = lets_in_one _ _ _ _ c.in-Changed.ensures.answers.1

pub returns-in-AlreadySo-clause-lets_in : goal.returns-in-AlreadySo-clause-lets_in
returns-in-AlreadySo-clause-lets_in g c = lets_in_one _ _ _ _ c.in-AlreadySo.ensures.answers.1

pub returns-in-NotWild-clause-lets_in : goal.returns-in-NotWild-clause-lets_in
returns-in-NotWild-clause-lets_in g c = lets_in_one _ _ _ _ c.in-NotWild.ensures.answers.1

pub returns-in-NotCreator-clause-lets_in : goal.returns-in-NotCreator-clause-lets_in
returns-in-NotCreator-clause-lets_in g c = lets_in_one _ _ _ _ c.in-NotCreator.ensures.answers.1

pub returns-in-NoSuchRole-clause-lets_in : goal.returns-in-NoSuchRole-clause-lets_in
returns-in-NoSuchRole-clause-lets_in g c = lets_in_one _ _ _ _ c.in-NoSuchRole.ensures.answers.1

pub returns-in-Listed-clause-lets_in : goal.returns-in-Listed-clause-lets_in
returns-in-Listed-clause-lets_in g c = lets_in_one _ _ _ _ c.in-Listed.ensures.answers.1

pub returns-in-NoMemory-clause-lets_in : goal.returns-in-NoMemory-clause-lets_in
returns-in-NoMemory-clause-lets_in g c = lets_in_none _ _ c.in-NoMemory.ensures.answers.1
