use Rattle.std.proofs.Common.{inr, refl, subst}
use Rattle.std.specs.Prelude.{Some}
use Rattle.ref_store.specs.Refs.{Name}
use Rattle.hub_history.specs.History.{IsLegal}
use Rattle.hub_journal.specs.declared.recovery.Recovered.{Recovered}
use Rattle.shell_program.proofs.KeepLemmas.{ends_open, ends_unopened}
use Rattle.shell_program.proofs.LoneLemmas.{legal_none}
use Rattle.shell_program.proofs.keep.run_keep.Goals as goal

pub returns-in-Ok-clause-ends : goal.returns-in-Ok-clause-ends
returns-in-Ok-clause-ends g c =
    ends_open c.args.admin.now c.in-Ok.recovered.hub c.in-Ok.recovered.writer.end g.Y.Disk.is_modeled (g.Y.Disk.state c.args.disk.now) _ _ _ _ _ _ c.run_open.result.log c.run_open.result.status
    c.in-Ok.ensures.admin c.in-Ok.ensures.legal c.in-Ok.ensures.found c.in-Ok.ensures.faults c.in-Ok.ensures.durable c.in-Ok.ensures.any_moment c.run_open.ensures.runs

pub returns-in-Ok-clause-legal : goal.returns-in-Ok-clause-legal
returns-in-Ok-clause-legal g c = subst (λ (a : Name). IsLegal a c.run_open.result.log) c.in-Ok.ensures.admin c.run_open.ensures.legal

pub returns-in-Err-clause-ends : goal.returns-in-Err-clause-ends
returns-in-Err-clause-ends g c =
    ends_unopened Recovered c.args.admin.now g.Y.Disk.is_modeled _ _ _ _ _ c.without_log.result.log c.in-Err.fault c.end_unopened-status.result c.without_log.result.status
    c.without_log.ensures.status c.without_log.ensures.log c.in-Err.ensures.faults c.in-Err.ensures.refused c.in-Err.ensures.any_moment c.end_unopened-status.ensures.ends

pub returns-in-Err-clause-legal : goal.returns-in-Err-clause-legal
returns-in-Err-clause-legal g c = legal_none (Some c.args.admin.now) c.without_log.result.log c.without_log.ensures.log
