use Rattle.std.proofs.Common.{◌∙◌, ℕ, List, [], ap, subst, sym}
use Rattle.std.specs.Prelude.{Ok, Err, Some}
use Rattle.ref_store.specs.Refs.{Name}
use Rattle.record_file.specs.Crashes.{FileState}
use Rattle.record_file.specs.Reading.{IsReadTo, ReaderState, ReadsNext}
use Rattle.record_file.proofs.ReadLemmas.{reads_more}
use Rattle.hub_history.specs.declared.entry.Entry.{Entry}
use Rattle.hub.specs.Hub.{HubView}
use Rattle.hub_journal.specs.Events.{bodies_in, head_for}
use Rattle.hub_journal.specs.LastPushes.{TellsPushes}
use Rattle.hub_journal.specs.Recovery.{RefusesEvents, journal_fault}
use Rattle.hub_journal.specs.Replay.{last_push}
use Rattle.hub_journal.specs.declared.open_fault.OpenFault.{OpenFault}
use Rattle.hub_journal.proofs.RecoveryLemmas.{event_bad, next_bad}
use Rattle.hub_journal.proofs.recovery.replay_all.Goals as goal

pub returns-in-Err-clause-refused : goal.returns-in-Err-clause-refused
returns-in-Err-clause-refused g c t r tells =
    let inv = c.loop-next.invariant in
    let file : List ℕ = (g.Y.Disk.state c.args.disk.now).file.content in
    let replay = c.loop-next.replay in
    let read : IsReadTo (head_for replay.hub.admin) (bodies_in replay.hub.log) file c.loop-next.reader.offset =
    inv.read t (head_for replay.hub.admin) (subst (λ (n : Name). IsReadTo (head_for n) [] file c.args.reader.now.offset) (sym inv.admin) r) in
    let next = subst (λ (f : FileState). ReadsNext f.content c.loop-next.reader.offset c.next_record.new.self.offset (Err c.in-Err.fault)) (inv.file t) (c.in-Err.ensures.reads t) in
    subst (RefusesEvents c.args.replay.hub.admin file) (sym c.fault_of.ensures)
    (subst (λ (n : Name). RefusesEvents n file (journal_fault c.in-Err.fault)) inv.admin
    (next_bad replay.hub.admin replay.hub.log file c.loop-next.reader.offset c.next_record.new.self.offset c.in-Err.fault inv.legal inv.storable read next))

pub returns-in_default-clause-read : goal.returns-in_default-clause-read
returns-in_default-clause-read g c t head r =
    let inv = c.loop-next.invariant in
    let moves = rw c.in_default.is at c.in-Ok.ensures.moves in
    subst (λ (log : List Entry). IsReadTo head (bodies_in log) (g.Y.Disk.state c.args.disk.now).file.content c.next_record.new.self.offset) (sym (ap (λ (h : HubView). h.log) c.into_hub-hub.ensures))
    (subst (λ (n : ℕ). IsReadTo head (bodies_in c.loop-next.replay.hub.log) (g.Y.Disk.state c.args.disk.now).file.content n) (sym (ap (λ (s : ReaderState). s.offset) moves)) (inv.read t head r))

pub returns-in-Err-replay_record-clause-refused : goal.returns-in-Err-replay_record-clause-refused
returns-in-Err-replay_record-clause-refused g c t r tells =
    let inv = c.loop-next.invariant in
    let file : List ℕ = (g.Y.Disk.state c.args.disk.now).file.content in
    let replay = c.loop-next.replay in
    let read : IsReadTo (head_for replay.hub.admin) (bodies_in replay.hub.log) file c.loop-next.reader.offset =
    inv.read t (head_for replay.hub.admin) (subst (λ (n : Name). IsReadTo (head_for n) [] file c.args.reader.now.offset) (sym inv.admin) r) in
    let found = rw c.in-Some.is at (c.in-Ok.ensures.reads t) in
    let here = subst (λ (f : FileState). ReadsNext f.content c.loop-next.reader.offset c.next_record.new.self.offset (Ok (Some c.in-Some.record))) (inv.file t) found in
    let moves = rw c.in-Some.is at c.in-Ok.ensures.moves in
    subst (λ (n : Name). RefusesEvents n file c.in-Err-replay_record.fault) inv.admin
    (event_bad replay c.args.replay.last_pushes file c.loop-next.reader.offset c.next_record.new.self.offset c.in-Some.record c.in-Err-replay_record.fault inv.last_pushes inv.legal inv.storable read here moves.0
    (subst (λ (n : Name). TellsPushes (head_for n) file (last_push c.args.replay.last_pushes)) (sym inv.admin) tells) c.in-Err-replay_record.ensures.refused)

pub loop-next-preserved : goal.loop-next-preserved
loop-next-preserved g c =
    let inv = c.loop-next.invariant in
    let after = c.in-Ok-replay_record.ensures in
    record {
      at_gate = c.next_record.ensures.at_gate;
      counts = c.in-Ok.ensures.faults ∙ inv.counts;
      file = λ t. c.next_record.ensures.file t ∙ inv.file t;
      admin = after.admin ∙ inv.admin;
      last_pushes = after.last_pushes ∙ inv.last_pushes;
      legal = after.legal;
      storable = after.storable inv.storable;
      read = λ t head r.
          let found = rw c.in-Some.is at (c.in-Ok.ensures.reads t) in
          let here = subst (λ (f : FileState). ReadsNext f.content c.loop-next.reader.offset c.next_record.new.self.offset (Ok (Some c.in-Some.record))) (inv.file t) found in
          subst (λ (bs : List (List ℕ)). IsReadTo head bs (g.Y.Disk.state c.args.disk.now).file.content c.next_record.new.self.offset) (sym after.event)
          (reads_more head (bodies_in c.loop-next.replay.hub.log) (g.Y.Disk.state c.args.disk.now).file.content c.in-Some.record.body c.loop-next.reader.offset c.next_record.new.self.offset (inv.read t head r) here);
    }
