use Rattle.std.proofs.Common.{List, refl, sym, ◌∙◌, ap, subst, inl}
use Rattle.hub_history.specs.declared.entry.Entry.{Entry}
use Rattle.hub.specs.Hub.{HubView}
use Rattle.shell_program.specs.Load.{BeginsLoad}
use Rattle.shell_program.specs.RunningLoads.{HasLoaded}
use Rattle.shell_program.specs.Serve.{new_hub}
use Rattle.shell_program.specs.Load.{loader}
use Rattle.shell_program.specs.Status.{status_number}
use Rattle.shell_program.specs.declared.status.Status.TheVariants.{NoMemory}
use Rattle.shell_program.proofs.LoadLemmas.{load_ends, load_stops, new_begins, when_err, when_ok}
use Rattle.shell_program.proofs.load.run_load.Goals as goal

pub returns-in_default-clause-ends : goal.returns-in_default-clause-ends
returns-in_default-clause-ends g c =
    load_stops c.args.count c.args.start (g.O.Endpoint.state c.args.output.now) (new_hub loader) c.without_log.result.log c.without_log.result.status (new_begins c.args.count c.args.start (new_hub loader) refl) c.without_log.ensures.log c.without_log.ensures.status

pub returns-then-is_err-clause-ends : goal.returns-then-is_err-clause-ends
returns-then-is_err-clause-ends g c =
    load_stops c.args.count c.args.start (g.O.Endpoint.state c.args.output.now) c.load_all-hub.result.0 c.legal_log.result c.number.result
    (when_err c.load_all-hub.result.1 c.is_err.result c.is_err.ensures.value c.if-is_err.true c.load_all-hub.ensures.lacks) c.legal_log.ensures.log c.number.ensures

pub returns-clause-ends : goal.returns-clause-ends
returns-clause-ends g c =
    load_ends c.args.count c.args.start (g.O.Endpoint.state c.args.output.now) (g.O.Endpoint.state c.print_loaded.new.output) c.legal_log-2.result c.load_all-hub.result.0 c.print_loaded.result c.number-2.result
    (when_ok c.load_all-hub.result.1 c.is_err.result c.is_err.ensures.value c.if-is_err.false c.load_all-hub.ensures.ok) c.legal_log-2.ensures.log (c.number-2.ensures ∙ ap status_number c.status_of-status.ensures) c.print_loaded.ensures.ok c.print_loaded.ensures.err
