use Rattle.shell_program.proofs.ServeLemmas.{printed_none}
use Rattle.shell_program.proofs.serve.print_served.Goals as goal

pub returns-in_default-clause-err : goal.returns-in_default-clause-err
returns-in_default-clause-err g c = printed_none (g.O.Endpoint.state c.args.output.now) c.args.sessions c.args.events
