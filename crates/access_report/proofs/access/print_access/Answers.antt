use Rattle.std.proofs.Common.{◌≡◌, Err, refl, rules}
use Rattle.std.specs.Option.{option_copied}
use Rattle.pktline_core.proofs.LinkLemmas.{later_same}
use Rattle.access_report.specs.Reading.{read}
use Rattle.access_report.specs.declared.report.ReportFault.TheVariants.{NoMemory}
use Rattle.access_report.proofs.DueLemmas.{some_of}
use Rattle.access_report.proofs.WritingLemmas.{stops_first}
use Rattle.access_report.proofs.access.print_access.Goals as goal

pub returns-in_err-text-in-Err : goal.returns-in_err-text-in-Err
returns-in_err-text-in-Err g c =
    let answer : c.from_residual.result ≡ Err NoMemory = search rules in
    rw answer (record { prints = λ ps are. stops_first _ _ (some_of ps (read c.args.ask.now) c.args.conf.now (option_copied c.args.other)); tells = refl; later = later_same _ })

pub returns-in-Err-NoMemory-clause-prints : goal.returns-in-Err-NoMemory-clause-prints
returns-in-Err-NoMemory-clause-prints g c = λ ps are. stops_first _ _ (some_of ps (read c.args.ask.now) c.args.conf.now (option_copied c.args.other))
