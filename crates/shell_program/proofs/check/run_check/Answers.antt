use Rattle.shell_program.proofs.CheckLemmas.{printed_part}
use Rattle.shell_program.proofs.check.run_check.Goals as goal

pub returns-clause-ends : goal.returns-clause-ends
returns-clause-ends g c =
    let stops = rw c.deref.ensures.value at c.in-Err-write_text.ensures.err in
    rw c.status_of.ensures (printed_part _ _ _ _ _ _ _ c.in-Err-write_text.fault c.in-Ok.ensures.ok c.in-Ok-check_conf.ensures stops)
