use Rattle.shell_program.proofs.KeepLemmas.{refusal_unmade}
use Rattle.shell_program.proofs.keep.print_refusal.Goals as goal

pub returns-in_default-clause-ends : goal.returns-in_default-clause-ends
returns-in_default-clause-ends g c = refusal_unmade (g.O.Endpoint.state c.args.output.now) c.args.fault
