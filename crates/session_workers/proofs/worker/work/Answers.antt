use Rattle.std.proofs.Common.{◌+◌, ap, arith, false, inr, ◌∙◌, refl, sym, subst, true}
use Rattle.turn_lock.specs.Lock.{IsSamePass, PassState}
use Rattle.hub.specs.Desk.{entries_of}
use Rattle.shared_hub.specs.declared.kept.KeptEntry.{KeptEntry}
use Rattle.shared_hub.specs.Kept.{admin_in}
use Rattle.shared_hub.specs.Shared.{log_seen}
use Rattle.session_workers.specs.Visits.{HasDone}
use Rattle.session_workers.proofs.WorkLemmas.{SoFar, start_of, fresh_none, none_served, one_served, or_false, same_on, same_pass, worked}
use Rattle.session_workers.proofs.worker.work.Goals as goal

pub loop-sessions-init : goal.loop-sessions-init
loop-sessions-init g c =
    let pass = c.args.pass in
    let same = c.new-desk.ensures in
    record {
      same = same_pass pass c.new-desk.result same;
      served = none_served (g.P.Protocol.meaning c.args.protocol) g.L.Endpoint.state g.H.EventHub.may_stop (admin_in pass.at_new) pass.caller (start_of pass) (log_seen c.new-desk.result) (g.D.Door.state c.args.door.now)
          (ap (λ (p : PassState (KeptEntry _)). entries_of pass.caller (start_of pass) (log_seen p)) same ∙ fresh_none pass c.requires.fresh);
      unstopped = refl;
      unfailed = refl;
      unrisen = refl;
    }

pub loop-sessions-preserved : goal.loop-sessions-preserved
loop-sessions-preserved g c =
    let so_far = c.loop-sessions.invariant in
    let pass = c.args.pass in
    let q = c.serve_next.new.desk in
    let old = g.D.Door.state c.args.door.now in
    let new = g.D.Door.state c.serve_next.new.door in
    let one = one_served (g.P.Protocol.meaning c.args.protocol) g.L.Endpoint.state g.H.EventHub.may_stop pass c.loop-sessions.desk q old (g.D.Door.state c.loop-sessions.door) new c.loop-sessions.sessions c.loop-sessions.tally.no_memory false c.in-Served.end so_far.same (λ none. absurd (cc)) so_far.served c.in-Served.ensures.next in
    record {
      same = subst (λ p. IsSamePass pass p) (sym c.has_stopped_by.ensures.same) (same_on pass c.loop-sessions.desk q so_far.same c.in-Served.ensures.goes);
      served = subst (λ p. SoFar (g.P.Protocol.meaning c.args.protocol) g.L.Endpoint.state g.H.EventHub.may_stop (admin_in pass.at_new) pass.caller (start_of pass) (log_seen p) old new (c.loop-sessions.sessions + 1) c.lacks.result false) (sym c.has_stopped_by.ensures.same)
          (subst (λ b. SoFar (g.P.Protocol.meaning c.args.protocol) g.L.Endpoint.state g.H.EventHub.may_stop (admin_in pass.at_new) pass.caller (start_of pass) (log_seen q) old new (c.loop-sessions.sessions + 1) b false) (sym c.lacks.ensures) one);
      unstopped = so_far.unstopped;
      unfailed = so_far.unfailed;
      unrisen = c.in-Served.ensures.next.2.faults ∙ so_far.unrisen;
    }

pub returns-then-has_stopped_by-clause-worked : goal.returns-then-has_stopped_by-clause-worked
returns-then-has_stopped_by-clause-worked g c =
    let so_far = c.loop-sessions.invariant in
    let pass = c.args.pass in
    let q = c.serve_next.new.desk in
    let old = g.D.Door.state c.args.door.now in
    let new = g.D.Door.state c.serve_next.new.door in
    let sessions = c.loop-sessions.sessions in
    let end = c.in-Served.end in
    let before = c.loop-sessions.tally.no_memory in
    let one = one_served (g.P.Protocol.meaning c.args.protocol) g.L.Endpoint.state g.H.EventHub.may_stop pass c.loop-sessions.desk q old (g.D.Door.state c.loop-sessions.door) new sessions before true end so_far.same (λ stopped. c.has_stopped_by.ensures.may c.if-has_stopped_by.true) so_far.served c.in-Served.ensures.next in
    let served = subst (λ p. SoFar (g.P.Protocol.meaning c.args.protocol) g.L.Endpoint.state g.H.EventHub.may_stop (admin_in pass.at_new) pass.caller (start_of pass) (log_seen p) old new (sessions + 1) before true) (sym (c.into_pass.ensures.pass ∙ c.has_stopped_by.ensures.same))
    (subst (λ b. SoFar (g.P.Protocol.meaning c.args.protocol) g.L.Endpoint.state g.H.EventHub.may_stop (admin_in pass.at_new) pass.caller (start_of pass) (log_seen q) old new (sessions + 1) b true) (or_false before) one) in
    let done = subst (λ b. HasDone true old new c.args.each (sessions + 1) b) (sym so_far.unfailed) (inr (inr refl), c.in-Served.ensures.next.2.faults ∙ so_far.unrisen) in
    let below = c.loop-sessions-test.true in
    worked (g.P.Protocol.meaning c.args.protocol) g.L.Endpoint.state g.H.EventHub.may_stop (admin_in pass.at_new) pass.caller (start_of pass) (log_seen c.into_pass.result) c.args.each old new _ served done (omega (arith, below))
