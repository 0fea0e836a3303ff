use Rattle.std.proofs.Common.{◌≡◌, List, length, ◌∙◌, ap, sym, subst, rules}
use Rattle.hub_history.specs.declared.entry.Entry.{Entry}
use Rattle.hub.specs.Hub.{HubView}
use Rattle.ref_store.specs.Refs.{Name}
use Rattle.hub_history.specs.History.{IsLegal}
use Rattle.record_file.specs.Disks.{DiskState}
use Rattle.hub_journal.specs.Journal.{GoesOn, JournalView}
use Rattle.shell_program.specs.Keep.{RunsOpen}
use Rattle.shell_program.specs.Status.{status_of}
use Rattle.shell_program.specs.declared.status.Status.{Status}
use Rattle.shell_program.proofs.KeepLemmas.{kept_open}
use Rattle.shell_program.proofs.keep.run_open.Goals as goal

pub returns-clause-runs : goal.returns-clause-runs
returns-clause-runs g c =
    let desk = c.new-desk.result in
    let desk' = c.run_script.new.desk in
    let modeled = g.Y.Disk.is_modeled in
    let hub = c.args.recovered.hub in
    let first : JournalView = record { hub = desk.hub.now; start = desk.start; store = record { stored = desk.stored; writer = desk.writer; disk = g.Y.Disk.state desk.disk.now } } in
    let last : JournalView = record { hub = desk'.hub.now; start = desk'.start; store = record { stored = desk'.stored; writer = desk'.writer; disk = g.Y.Disk.state desk'.disk.now } } in
    let on : GoesOn modeled first last = c.run_script.ensures.goes.2 first (c.hold_laws.ensures.stays modeled first) in
    let hub_is = c.new-desk.ensures.hub ∙ c.into_parts-hub.ensures.hub in
    let size_is = ap (λ (h : HubView). length h.log) c.into_parts-hub.ensures.hub in
    let source = g.I.Endpoint.state c.args.input.now in
    let source' = g.I.Endpoint.state c.run_script.new.input in
    let sink = g.O.Endpoint.state c.args.output.now in
    let sink' = g.O.Endpoint.state c.run_script.new.output in
    let runs =
    kept_open modeled hub c.args.recovered.writer (g.Y.Disk.state c.args.disk.now) first last hub_is (c.new-desk.ensures.start ∙ size_is) (c.new-desk.ensures.stored ∙ size_is) (c.new-desk.ensures.writer ∙ c.into_parts-hub.ensures.writer)
    c.requires.unbroken c.new-desk.ensures.disk on c.requires.durable source source' sink sink' c.run_script.result c.run_script.ensures.ok c.run_script.ensures.err c.run_script.ensures.tells_broken in
    let log_is : c.into_log.result ≡ desk'.hub.now.log = search (rules, c.run_script.ensures.goes.1) in (
      c.status_of-status.result,
      c.number.ensures,
      subst (λ (d : DiskState). RunsOpen hub.admin hub.log (record { modeled = modeled; old = g.Y.Disk.state c.args.disk.now; new = d }) source source' sink sink' c.into_log.result c.status_of-status.result) (search (rules, c.run_script.ensures.goes.0))
          (subst (λ (s : Status). RunsOpen hub.admin hub.log (record { modeled = modeled; old = g.Y.Disk.state c.args.disk.now; new = g.Y.Disk.state desk'.disk.now }) source source' sink sink' c.into_log.result s) (sym c.status_of-status.ensures)
          (subst (λ (l : List Entry). RunsOpen hub.admin hub.log (record { modeled = modeled; old = g.Y.Disk.state c.args.disk.now; new = g.Y.Disk.state desk'.disk.now }) source source' sink sink' l (status_of c.run_script.result)) (sym log_is) runs)),
    )

pub returns-clause-legal : goal.returns-clause-legal
returns-clause-legal g c =
    let desk' = c.run_script.new.desk in
    let log_is : c.into_log.result ≡ desk'.hub.now.log = search (rules, c.run_script.ensures.goes.1) in
    subst (λ (l : List Entry). IsLegal c.args.recovered.hub.admin l) (sym log_is)
    (subst (λ (a : Name). IsLegal a desk'.hub.now.log) (c.run_script.ensures.admin ∙ ap (λ (h : HubView). h.admin) (c.new-desk.ensures.hub ∙ c.into_parts-hub.ensures.hub)) c.sound.ensures.legal)
