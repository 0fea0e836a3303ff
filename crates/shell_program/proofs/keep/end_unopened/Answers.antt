use Rattle.std.proofs.Common.{subst, sym}
use Rattle.hub_journal.specs.declared.open_fault.OpenFault.{OpenFault}
use Rattle.shell_program.specs.Keep.{EndsUnopened, TellsRefusal, refusal_line}
use Rattle.shell_program.proofs.keep.end_unopened.Goals as goal

pub returns-in-NotAJournal-clause-ends : goal.returns-in-NotAJournal-clause-ends
returns-in-NotAJournal-clause-ends g c =
    let sink = g.O.Endpoint.state c.args.output.now in
    let sink' = g.O.Endpoint.state c.print_refusal.new.output in
    subst (λ (f : OpenFault). EndsUnopened f sink sink' c.print_refusal.result) (sym c.in-NotAJournal.is)
    (subst (λ (f : OpenFault). TellsRefusal (refusal_line f) sink sink' c.print_refusal.result) c.in-NotAJournal.is c.print_refusal.ensures.ends)

pub returns-in-OtherAdmin-clause-ends : goal.returns-in-OtherAdmin-clause-ends
returns-in-OtherAdmin-clause-ends g c =
    let sink = g.O.Endpoint.state c.args.output.now in
    let sink' = g.O.Endpoint.state c.print_refusal-in-OtherAdmin.new.output in
    subst (λ (f : OpenFault). EndsUnopened f sink sink' c.print_refusal-in-OtherAdmin.result) (sym c.in-OtherAdmin.is)
    (subst (λ (f : OpenFault). TellsRefusal (refusal_line f) sink sink' c.print_refusal-in-OtherAdmin.result) c.in-OtherAdmin.is c.print_refusal-in-OtherAdmin.ensures.ends)

pub returns-in-BadRecord-clause-ends : goal.returns-in-BadRecord-clause-ends
returns-in-BadRecord-clause-ends g c =
    let sink = g.O.Endpoint.state c.args.output.now in
    let sink' = g.O.Endpoint.state c.print_refusal-in-BadRecord.new.output in
    subst (λ (f : OpenFault). EndsUnopened f sink sink' c.print_refusal-in-BadRecord.result) (sym c.in-BadRecord.is)
    (subst (λ (f : OpenFault). TellsRefusal (refusal_line f) sink sink' c.print_refusal-in-BadRecord.result) c.in-BadRecord.is c.print_refusal-in-BadRecord.ensures.ends)
