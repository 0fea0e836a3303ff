use Rattle.std.proofs.Common.{List, [], ◌∙◌, ap, sym, subst}
use Rattle.std.specs.Prelude.{Some}
use Rattle.hub_history.specs.declared.entry.Entry.{Entry}
use Rattle.hub.specs.LoneDesk.{desk_of}
use Rattle.hub.specs.Hub.{HubView}
use Rattle.shell_program.specs.RunningScripts.{EndsScript}
use Rattle.shell_program.specs.declared.status.Status.{Status}
use Rattle.shell_program.specs.declared.status.Status.TheVariants.{NoMemory}
use Rattle.shell_program.proofs.LoneLemmas.{ended_new, legal_none, legal_script, undone}
use Rattle.shell_program.proofs.lone.run_alone.Goals as goal

pub returns-in_default-clause-ends : goal.returns-in_default-clause-ends
returns-in_default-clause-ends g c =
    let source = g.I.Endpoint.state c.args.input.now in
    let sink = g.O.Endpoint.state c.args.output.now in (
      NoMemory,
      c.without_log.ensures.status,
      subst (λ (l : List Entry). EndsScript c.args.admin.now [] source source sink sink l NoMemory) (sym c.without_log.ensures.log) (undone source sink c.args.admin.now),
    )

pub returns-in_default-clause-legal : goal.returns-in_default-clause-legal
returns-in_default-clause-legal g c = legal_none (Some c.args.admin.now) c.without_log.result.log c.without_log.ensures.log

pub returns-clause-ends : goal.returns-clause-ends
returns-clause-ends g c =
    let source = g.I.Endpoint.state c.args.input.now in
    let source' = g.I.Endpoint.state c.run_script.new.input in
    let sink = g.O.Endpoint.state c.args.output.now in
    let sink' = g.O.Endpoint.state c.run_script.new.output in
    let log = (desk_of c.run_script.new.desk).seen in
    let admin = c.args.admin.now in
    let ends : EndsScript admin [] source source' sink sink' log c.status_of-status.result =
    subst (λ (s : Status). EndsScript admin [] source source' sink sink' log s) (sym c.status_of-status.ensures)
    (ended_new source source' sink sink' admin log (desk_of c.in-Ok.desk) c.in-Ok.ensures c.run_script.result c.run_script.ensures.ok c.run_script.ensures.err c.run_script.ensures.tells_broken) in (
      c.status_of-status.result,
      c.number.ensures,
      subst (λ (l : List Entry). EndsScript admin [] source source' sink sink' l c.status_of-status.result) (sym (c.into_log.ensures ∙ ap (λ (h : HubView). h.log) c.into_hub.ensures)) ends,
    )

pub returns-clause-legal : goal.returns-clause-legal
returns-clause-legal g c =
    legal_script c.args.admin.now (desk_of c.in-Ok.desk) (desk_of c.run_script.new.desk) c.into_log.result
    c.in-Ok.ensures c.run_script.ensures.admin c.sound.ensures (c.into_log.ensures ∙ ap (λ (h : HubView). h.log) c.into_hub.ensures)
