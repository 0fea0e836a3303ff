use Rattle.std.proofs.Common.{IsTrue, Some, refl, ap, subst, sym}
use Rattle.pktline_core.specs.MemoryLinks.{MemoryState, memory_state}
use Rattle.hub.specs.Desk.{DeskView}
use Rattle.hub.specs.Hub.{HubView}
use Rattle.hub.specs.LoneDesk.{desk_of}
use Rattle.shell_program.specs.RunningLoads.{LacksInput, ServesInput}
use Rattle.shell_program.proofs.LoadLemmas.{at_hub, input_lacks, input_served}
use Rattle.shell_program.proofs.ScriptLemmas.{only_memory}
use Rattle.shell_program.proofs.load.serve_input.Goals as goal

pub returns-in-Some-clause-ok : goal.returns-in-Some-clause-ok
returns-in-Some-clause-ok c =
    let left = ap (λ (m : MemoryState). Some m.left) c.new-link.ensures in
    let written = ap (λ (m : MemoryState). Some m.written) c.new-link.ensures in
    let alone = subst (λ (d : DeskView). IsTrue d.alone) (sym c.new-desk.ensures.desk) refl in
    let ends = rw c.in-Some.ensures.some.1 at c.session-end.ensures.turn in
    at_hub (λ (h : HubView) (h' : HubView). ServesInput h h' c.args.input.items) c.args.hub c.into_hub.result (desk_of c.new-desk.result) (desk_of c.session-end.new.desk) c.new-desk.ensures.desk c.into_hub.ensures
    (input_served _ _ _ _ c.args.input.items _ c.in-Some.field-0.now c.session-end.result left written refl alone c.session-end.ensures.grows ends c.in-Some.ensures.some.0)

pub returns-clause-lacks : goal.returns-clause-lacks
returns-clause-lacks c =
    let left = ap (λ (m : MemoryState). Some m.left) c.new-link.ensures in
    let alone = subst (λ (d : DeskView). IsTrue d.alone) (sym c.new-desk.ensures.desk) refl in
    let may = ap (λ (m : MemoryState). (memory_state m).may_fail) c.new-link.ensures in
    let cannot = rw (c.new.ensures.items, c.new-2.ensures.items) at may in
    let failed = c.in-None.ensures.none in
    at_hub (λ (h : HubView) (h' : HubView). LacksInput h h' c.args.input.items) c.args.hub c.into_hub-in-None.result (desk_of c.new-desk.result) (desk_of c.session-end.new.desk) c.new-desk.ensures.desk c.into_hub-in-None.ensures
    (input_lacks _ _ _ _ c.args.input.items left alone c.session-end.ensures.grows (only_memory _ _ _ _ _ c.session-end.result failed.0 cannot c.session-end.ensures.causes failed.1 c.session-end.ensures.turn))
