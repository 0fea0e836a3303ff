use Rattle.shell_program.proofs.LoadLemmas.{line_unprinted}
use Rattle.shell_program.proofs.load.print_loaded.Goals as goal

pub returns-in_default-clause-err : goal.returns-in_default-clause-err
returns-in_default-clause-err g c = line_unprinted (g.O.Endpoint.state c.args.output.now) c.args.count c.args.start c.args.hub.now.log
