use Rattle.std.proofs.Common.{◌≡◌, Err, rules}
use Rattle.std.specs.Option.{option_map}
use Rattle.std.specs.Prelude.{vec_items}
use Rattle.access_report.specs.declared.report.ReportFault.TheVariants.{NoMemory}
use Rattle.shell_program.proofs.AccessLemmas.{nothing_printed}
use Rattle.shell_program.proofs.access.print_due.Goals as goal

pub returns-in_err-conf-clause-prints : goal.returns-in_err-conf-clause-prints
returns-in_err-conf-clause-prints g c =
    let answer : c.from_residual.result ≡ Err NoMemory = search rules in
    rw answer (λ ps are. nothing_printed _ ps c.args.input.ask.items c.args.input.conf.items (option_map vec_items c.args.input.other))

pub returns-in_err-only_file-in-Some-clause-prints : goal.returns-in_err-only_file-in-Some-clause-prints
returns-in_err-only_file-in-Some-clause-prints g c =
    let answer : c.from_residual-in_err-only_file-in-Some.result ≡ Err NoMemory = search rules in
    rw answer (λ ps are. nothing_printed _ ps c.args.input.ask.items c.args.input.conf.items (option_map vec_items c.args.input.other))
