use Rattle.std.proofs.Common.{◌≡◌, ◌⊎◌, Option, List, ◌++◌, inr, refl, subst, sym, length, take, drop, arith, ◌∙◌, ap}
use Rattle.shell_words.specs.declared.commands.Asked.{Asked}
use Rattle.shell_words.specs.declared.commands.Asked.TheVariants.{Script, Serve, Check, Load, Keep, Access}
use Rattle.shell_words.specs.Commands.{IsWithinLimits}
use Rattle.std.specs.Prelude.{Some, None}
use Rattle.base_types.specs.Counts.{HasRisen}
use Rattle.session_workers.specs.declared.post.Post.{Post}
use Rattle.shell_program.specs.Command.{built}
use Rattle.shell_program.specs.Protocols.{meaning_of, protocol_of}
use Rattle.shell_program.specs.declared.protocols.ServerProtocol.{ServerProtocol}
use Rattle.shell_program.specs.Serve.{ADoorFailed, EndsServe}
use Rattle.shell_program.specs.Status.{status_number}
use Rattle.shell_program.specs.declared.status.Status.{Status}
use Rattle.shell_program.specs.Keep.{DiskRun}
use Rattle.shell_program.specs.Lone.{IsLegalRun}
use Rattle.shell_program.specs.Shell.{EndsShell, EndsShellSurely}
use Rattle.shell_program.proofs.LoneLemmas.{asked_run, checked_run, kept_run, loaded_run, refused_run, script_run, unused}
use Rattle.shell_program.proofs.ShellLemmas.{refused_there, served_there, shell_asks, shell_checks, shell_keeps, shell_loads, shell_refuses, shell_runs, shell_serves, shell_serves_surely, shell_surely}
use Rattle.shell_program.proofs.program.run_asked.Goals as goal

pub returns-in-Check-clause-ends : goal.returns-in-Check-clause-ends
returns-in-Check-clause-ends g c =
    let source = g.I.Endpoint.state c.args.input.now in
    let source' = g.I.Endpoint.state c.check_alone.new.input in
    let sink = g.O.Endpoint.state c.args.output.now in
    let sink' = g.O.Endpoint.state c.check_alone.new.output in
    let posts = c.args.posts.now in
    subst (λ (a : Asked). EndsShell g.L.Endpoint.state g.D.Door.state posts posts (built (length posts) a) (unused g.Y.Disk.is_modeled (g.Y.Disk.state c.args.disk.now)) source source' sink sink' c.check_alone.result.status c.check_alone.result.log) (sym c.in-Check.is)
    (shell_checks g.L.Endpoint.state g.D.Door.state (unused g.Y.Disk.is_modeled (g.Y.Disk.state c.args.disk.now)) source source' sink sink' c.check_alone.result.log c.check_alone.result.status posts (checked_run (unused g.Y.Disk.is_modeled (g.Y.Disk.state c.args.disk.now)) source source' sink sink' c.check_alone.result.log c.check_alone.result.status c.check_alone.ensures.ends c.check_alone.ensures.log refl))

pub returns-in-Check-clause-sure : goal.returns-in-Check-clause-sure
returns-in-Check-clause-sure g c =
    let source = g.I.Endpoint.state c.args.input.now in
    let source' = g.I.Endpoint.state c.check_alone.new.input in
    let sink = g.O.Endpoint.state c.args.output.now in
    let sink' = g.O.Endpoint.state c.check_alone.new.output in
    let posts = c.args.posts.now in
    subst (λ (a : Asked). EndsShellSurely g.L.Endpoint.state g.D.Door.state posts posts (built (length posts) a) (unused g.Y.Disk.is_modeled (g.Y.Disk.state c.args.disk.now)) source source' sink sink' c.check_alone.result.status) (sym c.in-Check.is)
    (shell_surely g.L.Endpoint.state g.D.Door.state (unused g.Y.Disk.is_modeled (g.Y.Disk.state c.args.disk.now)) source source' sink sink' c.check_alone.result.log c.check_alone.result.status posts (Some Check) (checked_run (unused g.Y.Disk.is_modeled (g.Y.Disk.state c.args.disk.now)) source source' sink sink' c.check_alone.result.log c.check_alone.result.status c.check_alone.ensures.ends c.check_alone.ensures.log refl))

pub returns-in-Check-clause-legal : goal.returns-in-Check-clause-legal
returns-in-Check-clause-legal g c = subst (λ (a : Asked). IsLegalRun (built (length c.args.posts.now) a) c.check_alone.result.log) (sym c.in-Check.is) tt

pub returns-in-Script-clause-ends : goal.returns-in-Script-clause-ends
returns-in-Script-clause-ends g c =
    let source = g.I.Endpoint.state c.args.input.now in
    let source' = g.I.Endpoint.state c.run_alone.new.input in
    let sink = g.O.Endpoint.state c.args.output.now in
    let sink' = g.O.Endpoint.state c.run_alone.new.output in
    let posts = c.args.posts.now in
    subst (λ (a : Asked). EndsShell g.L.Endpoint.state g.D.Door.state posts posts (built (length posts) a) (unused g.Y.Disk.is_modeled (g.Y.Disk.state c.args.disk.now)) source source' sink sink' c.run_alone.result.status c.run_alone.result.log) (sym c.in-Script.is)
    (shell_runs g.L.Endpoint.state g.D.Door.state (unused g.Y.Disk.is_modeled (g.Y.Disk.state c.args.disk.now)) source source' sink sink' c.run_alone.result.log c.run_alone.result.status posts c.in-Script.admin (script_run (unused g.Y.Disk.is_modeled (g.Y.Disk.state c.args.disk.now)) source source' sink sink' c.run_alone.result.log c.run_alone.result.status c.in-Script.admin c.run_alone.ensures.ends refl))

pub returns-in-Script-clause-sure : goal.returns-in-Script-clause-sure
returns-in-Script-clause-sure g c =
    let source = g.I.Endpoint.state c.args.input.now in
    let source' = g.I.Endpoint.state c.run_alone.new.input in
    let sink = g.O.Endpoint.state c.args.output.now in
    let sink' = g.O.Endpoint.state c.run_alone.new.output in
    let posts = c.args.posts.now in
    subst (λ (a : Asked). EndsShellSurely g.L.Endpoint.state g.D.Door.state posts posts (built (length posts) a) (unused g.Y.Disk.is_modeled (g.Y.Disk.state c.args.disk.now)) source source' sink sink' c.run_alone.result.status) (sym c.in-Script.is)
    (shell_surely g.L.Endpoint.state g.D.Door.state (unused g.Y.Disk.is_modeled (g.Y.Disk.state c.args.disk.now)) source source' sink sink' c.run_alone.result.log c.run_alone.result.status posts (Some (Script c.in-Script.admin)) (script_run (unused g.Y.Disk.is_modeled (g.Y.Disk.state c.args.disk.now)) source source' sink sink' c.run_alone.result.log c.run_alone.result.status c.in-Script.admin c.run_alone.ensures.ends refl))

pub returns-in-Script-clause-legal : goal.returns-in-Script-clause-legal
returns-in-Script-clause-legal g c = subst (λ (a : Asked). IsLegalRun (built (length c.args.posts.now) a) c.run_alone.result.log) (sym c.in-Script.is) c.run_alone.ensures.legal

pub returns-then-posts-workers-clause-ends : goal.returns-then-posts-workers-clause-ends
returns-then-posts-workers-clause-ends g c =
    let source = g.I.Endpoint.state c.args.input.now in
    let sink = g.O.Endpoint.state c.args.output.now in
    let sink' = g.O.Endpoint.state c.refuse.new.output in
    let posts = c.args.posts.now in
    let found : built (length posts) c.args.asked ≡ None = ap (built (length posts)) c.in-Serve.is ∙ refused_there (length posts) c.in-Serve.transport c.in-Serve.admin c.in-Serve.workers c.in-Serve.sessions (omega arith) in
    subst (λ (o : Option Asked). EndsShell g.L.Endpoint.state g.D.Door.state posts posts o (unused g.Y.Disk.is_modeled (g.Y.Disk.state c.args.disk.now)) source source sink sink' c.refuse.result.status c.refuse.result.log) (sym found)
    (shell_refuses g.L.Endpoint.state g.D.Door.state (unused g.Y.Disk.is_modeled (g.Y.Disk.state c.args.disk.now)) source source sink sink' c.refuse.result.log c.refuse.result.status posts
    (refused_run (unused g.Y.Disk.is_modeled (g.Y.Disk.state c.args.disk.now)) source source sink sink' c.refuse.result.log c.refuse.result.status c.refuse.ensures.ends refl c.refuse.ensures.log refl))

pub returns-then-posts-workers-clause-tells : goal.returns-then-posts-workers-clause-tells
returns-then-posts-workers-clause-tells g c = (inr refl, c.refuse.ensures.tells)

pub returns-then-posts-workers-clause-sure : goal.returns-then-posts-workers-clause-sure
returns-then-posts-workers-clause-sure g c =
    let source = g.I.Endpoint.state c.args.input.now in
    let sink = g.O.Endpoint.state c.args.output.now in
    let sink' = g.O.Endpoint.state c.refuse.new.output in
    let posts = c.args.posts.now in
    let found : built (length posts) c.args.asked ≡ None = ap (built (length posts)) c.in-Serve.is ∙ refused_there (length posts) c.in-Serve.transport c.in-Serve.admin c.in-Serve.workers c.in-Serve.sessions (omega arith) in
    subst (λ (o : Option Asked). EndsShellSurely g.L.Endpoint.state g.D.Door.state posts posts o (unused g.Y.Disk.is_modeled (g.Y.Disk.state c.args.disk.now)) source source sink sink' c.refuse.result.status) (sym found)
    (shell_surely g.L.Endpoint.state g.D.Door.state (unused g.Y.Disk.is_modeled (g.Y.Disk.state c.args.disk.now)) source source sink sink' c.refuse.result.log c.refuse.result.status posts None
    (refused_run (unused g.Y.Disk.is_modeled (g.Y.Disk.state c.args.disk.now)) source source sink sink' c.refuse.result.log c.refuse.result.status c.refuse.ensures.ends refl c.refuse.ensures.log refl))

pub returns-then-posts-workers-clause-legal : goal.returns-then-posts-workers-clause-legal
returns-then-posts-workers-clause-legal g c =
    let posts = c.args.posts.now in
    let found : built (length posts) c.args.asked ≡ None = ap (built (length posts)) c.in-Serve.is ∙ refused_there (length posts) c.in-Serve.transport c.in-Serve.admin c.in-Serve.workers c.in-Serve.sessions (omega arith) in
    subst (λ (o : Option Asked). IsLegalRun o c.refuse.result.log) (sym found) tt

pub returns-else-posts-workers-clause-ends : goal.returns-else-posts-workers-clause-ends
returns-else-posts-workers-clause-ends g c =
    let source = g.I.Endpoint.state c.args.input.now in
    let sink = g.O.Endpoint.state c.args.output.now in
    let sink' = g.O.Endpoint.state c.run_serve.new.output in
    let posts = c.args.posts.now in
    let used = c.run_serve.new.posts in
    let rest = c.split_at_mut-used.result.1.now in
    let workers = c.in-Serve.workers in
    let limits : IsWithinLimits (Serve c.in-Serve.transport c.in-Serve.admin workers c.in-Serve.sessions) = subst IsWithinLimits c.in-Serve.is c.requires.limits in
    let found : built (length posts) c.args.asked ≡ Some (Serve c.in-Serve.transport c.in-Serve.admin workers c.in-Serve.sessions) =
    ap (built (length posts)) c.in-Serve.is ∙ served_there (length posts) c.in-Serve.transport c.in-Serve.admin workers c.in-Serve.sessions limits.1 (omega arith) in
    let enough : length used ≡ workers = c.run_serve.auto.posts ∙ c.split_at_mut-used.ensures.front_len in
    let front : c.split_at_mut-used.result.0.now ≡ take workers posts = c.split_at_mut-used.ensures.front in
    let back : rest ≡ drop workers posts = c.split_at_mut-used.ensures.back in
    subst (λ (o : Option Asked). EndsShell g.L.Endpoint.state g.D.Door.state posts (used ++ rest) o (unused g.Y.Disk.is_modeled (g.Y.Disk.state c.args.disk.now)) source source sink sink' c.run_serve.result.status c.run_serve.result.log) (sym found)
    (shell_serves g.L.Endpoint.state g.D.Door.state g.Y.Disk.is_modeled (g.Y.Disk.state c.args.disk.now) source sink sink' c.run_serve.result.log c.run_serve.result.status posts used rest c.in-Serve.transport c.in-Serve.admin workers c.in-Serve.sessions enough back
    (subst (λ (xs : List (Post _ _ _ _)). (why : Status) × (c.run_serve.result.status ≡ status_number why) × EndsServe (meaning_of (protocol_of c.in-Serve.transport)) g.L.Endpoint.state g.D.Door.state c.in-Serve.admin c.in-Serve.sessions xs used sink sink' c.run_serve.result.log why) front
    (subst (λ (protocol : ServerProtocol). (why : Status) × (c.run_serve.result.status ≡ status_number why) × EndsServe (meaning_of protocol) g.L.Endpoint.state g.D.Door.state c.in-Serve.admin c.in-Serve.sessions c.split_at_mut-used.result.0.now used sink sink' c.run_serve.result.log why) c.of-protocol.ensures c.run_serve.ensures.ends)))

pub returns-else-posts-workers-clause-tells : goal.returns-else-posts-workers-clause-tells
returns-else-posts-workers-clause-tells g c = (inr refl, c.run_serve.ensures.tells)

pub returns-else-posts-workers-clause-sure : goal.returns-else-posts-workers-clause-sure
returns-else-posts-workers-clause-sure g c =
    let source = g.I.Endpoint.state c.args.input.now in
    let sink = g.O.Endpoint.state c.args.output.now in
    let sink' = g.O.Endpoint.state c.run_serve.new.output in
    let posts = c.args.posts.now in
    let used = c.run_serve.new.posts in
    let rest = c.split_at_mut-used.result.1.now in
    let workers = c.in-Serve.workers in
    let limits : IsWithinLimits (Serve c.in-Serve.transport c.in-Serve.admin workers c.in-Serve.sessions) = subst IsWithinLimits c.in-Serve.is c.requires.limits in
    let found : built (length posts) c.args.asked ≡ Some (Serve c.in-Serve.transport c.in-Serve.admin workers c.in-Serve.sessions) =
    ap (built (length posts)) c.in-Serve.is ∙ served_there (length posts) c.in-Serve.transport c.in-Serve.admin workers c.in-Serve.sessions limits.1 (omega arith) in
    let enough : length used ≡ workers = c.run_serve.auto.posts ∙ c.split_at_mut-used.ensures.front_len in
    let front : c.split_at_mut-used.result.0.now ≡ take workers posts = c.split_at_mut-used.ensures.front in
    let back : rest ≡ drop workers posts = c.split_at_mut-used.ensures.back in
    subst (λ (o : Option Asked). EndsShellSurely g.L.Endpoint.state g.D.Door.state posts (used ++ rest) o (unused g.Y.Disk.is_modeled (g.Y.Disk.state c.args.disk.now)) source source sink sink' c.run_serve.result.status) (sym found)
    (shell_serves_surely g.L.Endpoint.state g.D.Door.state g.Y.Disk.is_modeled (g.Y.Disk.state c.args.disk.now) source sink sink' c.run_serve.result.log c.run_serve.result.status posts used rest c.in-Serve.transport c.in-Serve.admin workers c.in-Serve.sessions enough back
    (subst (λ (xs : List (Post _ _ _ _)). (ADoorFailed g.D.Door.state xs used → ⊥) → (HasRisen sink.write_faults sink'.write_faults → ⊥) → (c.run_serve.result.status ≡ 0) ⊎ (c.run_serve.result.status ≡ 4)) front c.run_serve.ensures.sure))

pub returns-else-posts-workers-clause-legal : goal.returns-else-posts-workers-clause-legal
returns-else-posts-workers-clause-legal g c =
    let posts = c.args.posts.now in
    let limits : IsWithinLimits (Serve c.in-Serve.transport c.in-Serve.admin c.in-Serve.workers c.in-Serve.sessions) = subst IsWithinLimits c.in-Serve.is c.requires.limits in
    let found : built (length posts) c.args.asked ≡ Some (Serve c.in-Serve.transport c.in-Serve.admin c.in-Serve.workers c.in-Serve.sessions) =
    ap (built (length posts)) c.in-Serve.is ∙ served_there (length posts) c.in-Serve.transport c.in-Serve.admin c.in-Serve.workers c.in-Serve.sessions limits.1 (omega arith) in
    subst (λ (o : Option Asked). IsLegalRun o c.run_serve.result.log) (sym found) c.run_serve.ensures.legal

pub returns-in-Load-clause-ends : goal.returns-in-Load-clause-ends
returns-in-Load-clause-ends g c =
    let source = g.I.Endpoint.state c.args.input.now in
    let sink = g.O.Endpoint.state c.args.output.now in
    let sink' = g.O.Endpoint.state c.run_load.new.output in
    let posts = c.args.posts.now in
    subst (λ (a : Asked). EndsShell g.L.Endpoint.state g.D.Door.state posts posts (built (length posts) a) (unused g.Y.Disk.is_modeled (g.Y.Disk.state c.args.disk.now)) source source sink sink' c.run_load.result.status c.run_load.result.log) (sym c.in-Load.is)
    (shell_loads g.L.Endpoint.state g.D.Door.state (unused g.Y.Disk.is_modeled (g.Y.Disk.state c.args.disk.now)) source source sink sink' c.run_load.result.log c.run_load.result.status posts c.in-Load.count c.in-Load.start
    (loaded_run g.Y.Disk.is_modeled (g.Y.Disk.state c.args.disk.now) source sink sink' c.run_load.result.log c.run_load.result.status c.in-Load.count c.in-Load.start c.run_load.ensures.ends))

pub returns-in-Load-clause-tells : goal.returns-in-Load-clause-tells
returns-in-Load-clause-tells g c = (inr refl, c.run_load.ensures.tells)

pub returns-in-Load-clause-sure : goal.returns-in-Load-clause-sure
returns-in-Load-clause-sure g c =
    let source = g.I.Endpoint.state c.args.input.now in
    let sink = g.O.Endpoint.state c.args.output.now in
    let sink' = g.O.Endpoint.state c.run_load.new.output in
    let posts = c.args.posts.now in
    subst (λ (a : Asked). EndsShellSurely g.L.Endpoint.state g.D.Door.state posts posts (built (length posts) a) (unused g.Y.Disk.is_modeled (g.Y.Disk.state c.args.disk.now)) source source sink sink' c.run_load.result.status) (sym c.in-Load.is)
    (shell_surely g.L.Endpoint.state g.D.Door.state (unused g.Y.Disk.is_modeled (g.Y.Disk.state c.args.disk.now)) source source sink sink' c.run_load.result.log c.run_load.result.status posts (Some (Load c.in-Load.count c.in-Load.start))
    (loaded_run g.Y.Disk.is_modeled (g.Y.Disk.state c.args.disk.now) source sink sink' c.run_load.result.log c.run_load.result.status c.in-Load.count c.in-Load.start c.run_load.ensures.ends))

pub returns-in-Load-clause-legal : goal.returns-in-Load-clause-legal
returns-in-Load-clause-legal g c = subst (λ (a : Asked). IsLegalRun (built (length c.args.posts.now) a) c.run_load.result.log) (sym c.in-Load.is) c.run_load.ensures.legal

pub returns-in-Keep-clause-ends : goal.returns-in-Keep-clause-ends
returns-in-Keep-clause-ends g c =
    let disk : DiskRun = (record { modeled = g.Y.Disk.is_modeled; old = g.Y.Disk.state c.args.disk.now; new = g.Y.Disk.state c.run_keep.new.disk }) in
    let source = g.I.Endpoint.state c.args.input.now in
    let source' = g.I.Endpoint.state c.run_keep.new.input in
    let sink = g.O.Endpoint.state c.args.output.now in
    let sink' = g.O.Endpoint.state c.run_keep.new.output in
    let posts = c.args.posts.now in
    subst (λ (a : Asked). EndsShell g.L.Endpoint.state g.D.Door.state posts posts (built (length posts) a) disk source source' sink sink' c.run_keep.result.status c.run_keep.result.log) (sym c.in-Keep.is)
    (shell_keeps g.L.Endpoint.state g.D.Door.state disk source source' sink sink' c.run_keep.result.log c.run_keep.result.status posts c.in-Keep.admin
    (kept_run disk source source' sink sink' c.run_keep.result.log c.run_keep.result.status c.in-Keep.admin c.run_keep.ensures.ends))

pub returns-in-Keep-clause-sure : goal.returns-in-Keep-clause-sure
returns-in-Keep-clause-sure g c =
    let disk : DiskRun = (record { modeled = g.Y.Disk.is_modeled; old = g.Y.Disk.state c.args.disk.now; new = g.Y.Disk.state c.run_keep.new.disk }) in
    let source = g.I.Endpoint.state c.args.input.now in
    let source' = g.I.Endpoint.state c.run_keep.new.input in
    let sink = g.O.Endpoint.state c.args.output.now in
    let sink' = g.O.Endpoint.state c.run_keep.new.output in
    let posts = c.args.posts.now in
    subst (λ (a : Asked). EndsShellSurely g.L.Endpoint.state g.D.Door.state posts posts (built (length posts) a) disk source source' sink sink' c.run_keep.result.status) (sym c.in-Keep.is)
    (shell_surely g.L.Endpoint.state g.D.Door.state disk source source' sink sink' c.run_keep.result.log c.run_keep.result.status posts (Some (Keep c.in-Keep.admin))
    (kept_run disk source source' sink sink' c.run_keep.result.log c.run_keep.result.status c.in-Keep.admin c.run_keep.ensures.ends))

pub returns-in-Keep-clause-legal : goal.returns-in-Keep-clause-legal
returns-in-Keep-clause-legal g c = subst (λ (a : Asked). IsLegalRun (built (length c.args.posts.now) a) c.run_keep.result.log) (sym c.in-Keep.is) c.run_keep.ensures.legal

pub returns-in-Access-clause-ends : goal.returns-in-Access-clause-ends
returns-in-Access-clause-ends g c =
    let source = g.I.Endpoint.state c.args.input.now in
    let source' = g.I.Endpoint.state c.ask_alone.new.input in
    let sink = g.O.Endpoint.state c.args.output.now in
    let sink' = g.O.Endpoint.state c.ask_alone.new.output in
    let posts = c.args.posts.now in
    subst (λ (a : Asked). EndsShell g.L.Endpoint.state g.D.Door.state posts posts (built (length posts) a) (unused g.Y.Disk.is_modeled (g.Y.Disk.state c.args.disk.now)) source source' sink sink' c.ask_alone.result.status c.ask_alone.result.log) (sym c.in-Access.is)
    (shell_asks g.L.Endpoint.state g.D.Door.state (unused g.Y.Disk.is_modeled (g.Y.Disk.state c.args.disk.now)) source source' sink sink' c.ask_alone.result.log c.ask_alone.result.status posts (asked_run (unused g.Y.Disk.is_modeled (g.Y.Disk.state c.args.disk.now)) source source' sink sink' c.ask_alone.result.log c.ask_alone.result.status c.ask_alone.ensures.ends c.ask_alone.ensures.log refl))

pub returns-in-Access-clause-sure : goal.returns-in-Access-clause-sure
returns-in-Access-clause-sure g c =
    let source = g.I.Endpoint.state c.args.input.now in
    let source' = g.I.Endpoint.state c.ask_alone.new.input in
    let sink = g.O.Endpoint.state c.args.output.now in
    let sink' = g.O.Endpoint.state c.ask_alone.new.output in
    let posts = c.args.posts.now in
    subst (λ (a : Asked). EndsShellSurely g.L.Endpoint.state g.D.Door.state posts posts (built (length posts) a) (unused g.Y.Disk.is_modeled (g.Y.Disk.state c.args.disk.now)) source source' sink sink' c.ask_alone.result.status) (sym c.in-Access.is)
    (shell_surely g.L.Endpoint.state g.D.Door.state (unused g.Y.Disk.is_modeled (g.Y.Disk.state c.args.disk.now)) source source' sink sink' c.ask_alone.result.log c.ask_alone.result.status posts (Some Access) (asked_run (unused g.Y.Disk.is_modeled (g.Y.Disk.state c.args.disk.now)) source source' sink sink' c.ask_alone.result.log c.ask_alone.result.status c.ask_alone.ensures.ends c.ask_alone.ensures.log refl))

pub returns-in-Access-clause-legal : goal.returns-in-Access-clause-legal
returns-in-Access-clause-legal g c = subst (λ (a : Asked). IsLegalRun (built (length c.args.posts.now) a) c.ask_alone.result.log) (sym c.in-Access.is) tt
