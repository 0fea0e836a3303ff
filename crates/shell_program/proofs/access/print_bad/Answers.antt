use Rattle.shell_program.proofs.AccessLemmas.{bad_untold}
use Rattle.shell_program.proofs.access.print_bad.Goals as goal

pub returns-in_default-clause-bad : goal.returns-in_default-clause-bad
returns-in_default-clause-bad g c = bad_untold _ c.args.offset
