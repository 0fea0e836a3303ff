use Rattle.std.proofs.Common.{refl, inr, subst, sym}
use Rattle.shell_words.specs.declared.commands.Asked.{Asked}
use Rattle.shell_program.specs.Command.{built}
use Rattle.shell_program.specs.Lone.{EndsRun, IsLegalRun}
use Rattle.shell_program.proofs.LoneLemmas.{asked_run, checked_run, kept_run, loaded_run, refused_run, script_run, surely}
use Rattle.shell_program.proofs.lone.run_asked.Goals as goal

pub returns-in-Check-clause-ends : goal.returns-in-Check-clause-ends
returns-in-Check-clause-ends g c =
    subst (λ (a : Asked). EndsRun (built 0 a) (record { modeled = g.Y.Disk.is_modeled; old = g.Y.Disk.state c.args.disk.now; new = g.Y.Disk.state c.args.disk.now }) (g.I.Endpoint.state c.args.input.now) (g.I.Endpoint.state c.check_alone.new.input) (g.O.Endpoint.state c.args.output.now) (g.O.Endpoint.state c.check_alone.new.output) c.check_alone.result.status c.check_alone.result.log)
    (sym c.in-Check.is) (checked_run _ _ _ _ _ _ _ c.check_alone.ensures.ends c.check_alone.ensures.log refl)

pub returns-in-Check-clause-sure : goal.returns-in-Check-clause-sure
returns-in-Check-clause-sure g c = surely _ _ _ _ _ _ _ _ (returns-in-Check-clause-ends g c)

pub returns-in-Check-clause-legal : goal.returns-in-Check-clause-legal
returns-in-Check-clause-legal g c = subst (λ (a : Asked). IsLegalRun (built 0 a) c.check_alone.result.log) (sym c.in-Check.is) tt

pub returns-in-Script-clause-ends : goal.returns-in-Script-clause-ends
returns-in-Script-clause-ends g c =
    subst (λ (a : Asked). EndsRun (built 0 a) (record { modeled = g.Y.Disk.is_modeled; old = g.Y.Disk.state c.args.disk.now; new = g.Y.Disk.state c.args.disk.now }) (g.I.Endpoint.state c.args.input.now) (g.I.Endpoint.state c.run_alone.new.input) (g.O.Endpoint.state c.args.output.now) (g.O.Endpoint.state c.run_alone.new.output) c.run_alone.result.status c.run_alone.result.log)
    (sym c.in-Script.is) (script_run _ _ _ _ _ _ _ c.in-Script.admin c.run_alone.ensures.ends refl)

pub returns-in-Script-clause-sure : goal.returns-in-Script-clause-sure
returns-in-Script-clause-sure g c = surely _ _ _ _ _ _ _ _ (returns-in-Script-clause-ends g c)

pub returns-in-Script-clause-legal : goal.returns-in-Script-clause-legal
returns-in-Script-clause-legal g c = subst (λ (a : Asked). IsLegalRun (built 0 a) c.run_alone.result.log) (sym c.in-Script.is) c.run_alone.ensures.legal

pub returns-in-Serve-clause-ends : goal.returns-in-Serve-clause-ends
returns-in-Serve-clause-ends g c =
    subst (λ (a : Asked). EndsRun (built 0 a) (record { modeled = g.Y.Disk.is_modeled; old = g.Y.Disk.state c.args.disk.now; new = g.Y.Disk.state c.args.disk.now }) (g.I.Endpoint.state c.args.input.now) (g.I.Endpoint.state c.args.input.now) (g.O.Endpoint.state c.args.output.now) (g.O.Endpoint.state c.refuse.new.output) c.refuse.result.status c.refuse.result.log)
    (sym c.in-Serve.is) (refused_run _ _ _ _ _ _ _ c.refuse.ensures.ends refl c.refuse.ensures.log refl)

pub returns-in-Serve-clause-tells : goal.returns-in-Serve-clause-tells
returns-in-Serve-clause-tells g c = (inr refl, c.refuse.ensures.tells)

pub returns-in-Serve-clause-sure : goal.returns-in-Serve-clause-sure
returns-in-Serve-clause-sure g c = surely _ _ _ _ _ _ _ _ (returns-in-Serve-clause-ends g c)

pub returns-in-Serve-clause-legal : goal.returns-in-Serve-clause-legal
returns-in-Serve-clause-legal g c = subst (λ (a : Asked). IsLegalRun (built 0 a) c.refuse.result.log) (sym c.in-Serve.is) tt

pub returns-in-Load-clause-ends : goal.returns-in-Load-clause-ends
returns-in-Load-clause-ends g c =
    subst (λ (a : Asked). EndsRun (built 0 a) (record { modeled = g.Y.Disk.is_modeled; old = g.Y.Disk.state c.args.disk.now; new = g.Y.Disk.state c.args.disk.now }) (g.I.Endpoint.state c.args.input.now) (g.I.Endpoint.state c.args.input.now) (g.O.Endpoint.state c.args.output.now) (g.O.Endpoint.state c.run_load.new.output) c.run_load.result.status c.run_load.result.log)
    (sym c.in-Load.is) (loaded_run _ _ _ _ _ _ _ c.in-Load.count c.in-Load.start c.run_load.ensures.ends)

pub returns-in-Load-clause-tells : goal.returns-in-Load-clause-tells
returns-in-Load-clause-tells g c = (inr refl, c.run_load.ensures.tells)

pub returns-in-Load-clause-sure : goal.returns-in-Load-clause-sure
returns-in-Load-clause-sure g c = surely _ _ _ _ _ _ _ _ (returns-in-Load-clause-ends g c)

pub returns-in-Load-clause-legal : goal.returns-in-Load-clause-legal
returns-in-Load-clause-legal g c = subst (λ (a : Asked). IsLegalRun (built 0 a) c.run_load.result.log) (sym c.in-Load.is) c.run_load.ensures.legal

pub returns-in-Keep-clause-ends : goal.returns-in-Keep-clause-ends
returns-in-Keep-clause-ends g c =
    subst (λ (a : Asked). EndsRun (built 0 a) (record { modeled = g.Y.Disk.is_modeled; old = g.Y.Disk.state c.args.disk.now; new = g.Y.Disk.state c.run_keep.new.disk }) (g.I.Endpoint.state c.args.input.now) (g.I.Endpoint.state c.run_keep.new.input) (g.O.Endpoint.state c.args.output.now) (g.O.Endpoint.state c.run_keep.new.output) c.run_keep.result.status c.run_keep.result.log)
    (sym c.in-Keep.is) (kept_run _ _ _ _ _ _ _ c.in-Keep.admin c.run_keep.ensures.ends)

pub returns-in-Keep-clause-sure : goal.returns-in-Keep-clause-sure
returns-in-Keep-clause-sure g c = surely _ _ _ _ _ _ _ _ (returns-in-Keep-clause-ends g c)

pub returns-in-Keep-clause-legal : goal.returns-in-Keep-clause-legal
returns-in-Keep-clause-legal g c = subst (λ (a : Asked). IsLegalRun (built 0 a) c.run_keep.result.log) (sym c.in-Keep.is) c.run_keep.ensures.legal

pub returns-clause-ends : goal.returns-clause-ends
returns-clause-ends g c =
    subst (λ (a : Asked). EndsRun (built 0 a) (record { modeled = g.Y.Disk.is_modeled; old = g.Y.Disk.state c.args.disk.now; new = g.Y.Disk.state c.args.disk.now }) (g.I.Endpoint.state c.args.input.now) (g.I.Endpoint.state c.ask_alone.new.input) (g.O.Endpoint.state c.args.output.now) (g.O.Endpoint.state c.ask_alone.new.output) c.ask_alone.result.status c.ask_alone.result.log)
    (sym c.in-Access.is) (asked_run _ _ _ _ _ _ _ c.ask_alone.ensures.ends c.ask_alone.ensures.log refl)

pub returns-clause-sure : goal.returns-clause-sure
returns-clause-sure g c = surely _ _ _ _ _ _ _ _ (returns-clause-ends g c)

pub returns-clause-legal : goal.returns-clause-legal
returns-clause-legal g c = subst (λ (a : Asked). IsLegalRun (built 0 a) c.ask_alone.result.log) (sym c.in-Access.is) tt
