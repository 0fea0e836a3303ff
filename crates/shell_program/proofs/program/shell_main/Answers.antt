use Rattle.std.proofs.Common.{Option, inr, refl, map, string_bytes, subst, sym, length}
use Rattle.std.specs.Prelude.{option_and_then}
use Rattle.shell_words.specs.declared.commands.Asked.{Asked}
use Rattle.shell_words.specs.Commands.{asked}
use Rattle.shell_program.specs.Command.{admin_of, built, command}
use Rattle.shell_program.specs.Lone.{IsLegalRun, RefusesSurely}
use Rattle.shell_program.specs.Shell.{EndsShell, EndsShellSurely}
use Rattle.shell_program.proofs.LoneLemmas.{admin_named, legal_none, recorded_script, refuses_unread}
use Rattle.shell_program.proofs.ShellLemmas.{shell_unread, shell_unread_surely}
use Rattle.shell_program.proofs.program.shell_main.Goals as goal

pub returns-in-Ok-clause-ends : goal.returns-in-Ok-clause-ends
returns-in-Ok-clause-ends g c =
    subst (λ (o : Option Asked). EndsShell g.L.Endpoint.state g.D.Door.state c.args.posts.now c.run_asked.new.posts (option_and_then (built (length c.args.posts.now)) o) (record { modeled = g.Y.Disk.is_modeled; old = g.Y.Disk.state c.args.disk.now; new = g.Y.Disk.state c.run_asked.new.disk }) (g.I.Endpoint.state c.args.input.now) (g.I.Endpoint.state c.run_asked.new.input) (g.O.Endpoint.state c.args.output.now) (g.O.Endpoint.state c.run_asked.new.output) c.run_asked.result.status c.run_asked.result.log)
    (sym c.in-Ok.ensures.reads) c.run_asked.ensures.ends

pub returns-in-Ok-clause-sure : goal.returns-in-Ok-clause-sure
returns-in-Ok-clause-sure g c =
    subst (λ (o : Option Asked). EndsShellSurely g.L.Endpoint.state g.D.Door.state c.args.posts.now c.run_asked.new.posts (option_and_then (built (length c.args.posts.now)) o) (record { modeled = g.Y.Disk.is_modeled; old = g.Y.Disk.state c.args.disk.now; new = g.Y.Disk.state c.run_asked.new.disk }) (g.I.Endpoint.state c.args.input.now) (g.I.Endpoint.state c.run_asked.new.input) (g.O.Endpoint.state c.args.output.now) (g.O.Endpoint.state c.run_asked.new.output) c.run_asked.result.status)
    (sym c.in-Ok.ensures.reads) c.run_asked.ensures.sure

pub returns-in-Ok-clause-legal : goal.returns-in-Ok-clause-legal
returns-in-Ok-clause-legal g c = subst (λ (o : Option Asked). IsLegalRun (option_and_then (built (length c.args.posts.now)) o) c.run_asked.result.log) (sym c.in-Ok.ensures.reads) c.run_asked.ensures.legal

pub returns-in-Ok-clause-recorded : goal.returns-in-Ok-clause-recorded
returns-in-Ok-clause-recorded g c = recorded_script c.hold_laws.ensures.recorded _ (admin_named c.hold_laws-2.ensures.read (length c.args.posts.now) (map string_bytes c.args.words.now)) _ (returns-in-Ok-clause-legal g c)

pub returns-in-Err-clause-ends : goal.returns-in-Err-clause-ends
returns-in-Err-clause-ends g c =
    shell_unread g.L.Endpoint.state g.D.Door.state c.args.posts.now g.Y.Disk.is_modeled (g.Y.Disk.state c.args.disk.now) (g.I.Endpoint.state c.args.input.now) (g.O.Endpoint.state c.args.output.now) (g.O.Endpoint.state c.unread.new.output) c.unread.result.status c.unread.result.log (asked (map string_bytes c.args.words.now)) c.in-Err.fault
    c.in-Err.ensures.reads c.unread.ensures.ends c.unread.ensures.log

pub returns-in-Err-clause-tells : goal.returns-in-Err-clause-tells
returns-in-Err-clause-tells g c = (inr refl, c.unread.ensures.tells)

pub returns-in-Err-clause-sure : goal.returns-in-Err-clause-sure
returns-in-Err-clause-sure g c =
    shell_unread_surely g.L.Endpoint.state g.D.Door.state c.args.posts.now g.Y.Disk.is_modeled (g.Y.Disk.state c.args.disk.now) (g.I.Endpoint.state c.args.input.now) (g.O.Endpoint.state c.args.output.now) (g.O.Endpoint.state c.unread.new.output) c.unread.result.status (asked (map string_bytes c.args.words.now)) c.in-Err.fault
    c.in-Err.ensures.reads c.unread.ensures.ends

pub returns-in-Err-clause-legal : goal.returns-in-Err-clause-legal
returns-in-Err-clause-legal g c = legal_none (admin_of (command (length c.args.posts.now) (map string_bytes c.args.words.now))) c.unread.result.log c.unread.ensures.log

pub returns-in-Err-clause-recorded : goal.returns-in-Err-clause-recorded
returns-in-Err-clause-recorded g c = recorded_script c.hold_laws.ensures.recorded _ (admin_named c.hold_laws-2.ensures.read (length c.args.posts.now) (map string_bytes c.args.words.now)) _ (returns-in-Err-clause-legal g c)

pub returns-in-Ok-clause-refuses : goal.returns-in-Ok-clause-refuses
returns-in-Ok-clause-refuses g c = subst (λ (o : Option Asked). RefusesSurely o (g.O.Endpoint.state c.args.output.now) c.run_asked.result.status) (sym c.in-Ok.ensures.reads) tt

pub returns-in-Err-clause-refuses : goal.returns-in-Err-clause-refuses
returns-in-Err-clause-refuses g c =
    refuses_unread (g.O.Endpoint.state c.args.output.now) c.unread.result.status (asked (map string_bytes c.args.words.now)) c.in-Err.fault c.in-Err.ensures.reads c.unread.ensures.lacks
