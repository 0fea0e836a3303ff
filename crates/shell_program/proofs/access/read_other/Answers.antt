use Rattle.std.proofs.Common.{◌≡◌, Err, rules}
use Rattle.shell_program.proofs.AccessLemmas.{more_stopped, other_stopped}
use Rattle.shell_program.proofs.access.read_other.Goals as goal

pub returns-in_err-expect_end-in-Ok-Some-clause-err : goal.returns-in_err-expect_end-in-Ok-Some-clause-err
returns-in_err-expect_end-in-Ok-Some-clause-err g c =
    let answer : c.from_residual.result ≡ Err c.in_err-expect_end-in-Ok-Some.field-0.0 = search rules in
    let taken = rw c.in-Ok-Some.field-0-is at c.in-Ok-Some.ensures.some in
    rw answer (more_stopped _ _ _ c.in-Ok-Some.frame.taken c.args.offset c.in-Ok-Some.frame.body.items c.in_err-expect_end-in-Ok-Some.field-0.0 taken c.read_frame.ensures.later c.in_err-expect_end-in-Ok-Some.ensures.err)

pub returns-in-Err-clause-err : goal.returns-in-Err-clause-err
returns-in-Err-clause-err g c = rw c.input_fault.ensures (other_stopped _ _ c.args.offset c.in-Err.fault c.in-Err.ensures.err)
