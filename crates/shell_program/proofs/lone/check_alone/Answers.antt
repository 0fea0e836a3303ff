use Rattle.shell_program.proofs.lone.check_alone.Goals as goal

pub returns-clause-ends : goal.returns-clause-ends
returns-clause-ends g c = (c.run_check-status.result, c.without_log.ensures.status, c.run_check-status.ensures.ends)
