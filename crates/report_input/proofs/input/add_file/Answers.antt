use Rattle.report_input.proofs.InputLemmas.{file_stopped}
use Rattle.report_input.proofs.input.add_file.Goals as goal

pub returns-in-Err-clause-err : goal.returns-in-Err-clause-err
returns-in-Err-clause-err g c = rw c.input_fault.ensures (file_stopped c.args.confs.now _ _ c.args.offset c.in-Err.fault c.in-Err.ensures.err)
