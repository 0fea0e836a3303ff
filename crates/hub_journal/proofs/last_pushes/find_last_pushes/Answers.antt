use Rattle.std.proofs.Common.{◌≡◌, ◌∙◌, ◌+◌, ◌≤◌, ℕ, List, Some, None, arith, subst, sym}
use Rattle.record_file.specs.Crashes.{FileState}
use Rattle.event_record.specs.Fronts.{place_at}
use Rattle.hub_journal.specs.LastPushes.{FindsFront, noted}
use Rattle.hub_journal.specs.Replay.{last_push}
use Rattle.hub_journal.proofs.RecoveryLemmas.{seen_more, tells_pushes}
use Rattle.hub_journal.proofs.last_pushes.find_last_pushes.Goals as goal

pub returns-in_default-clause-found : goal.returns-in_default-clause-found
returns-in_default-clause-found g c t head r =
    let inv = c.loop-front.invariant in
    let found = rw c.in_default.is at (c.in-Ok.ensures.reads t) in
    tells_pushes head (g.Y.Disk.state c.args.disk.now).file.content c.loop-front.place c.loop-front.reader.offset (last_push c.loop-front.last_pushes.entries) (inv.seen t head r)
    (subst (λ (f : FileState). FindsFront f.content c.loop-front.reader.offset c.next_front.new.reader.offset None) (inv.file t) found)

pub loop-front-preserved : goal.loop-front-preserved
loop-front-preserved g c =
    let inv = c.loop-front.invariant in
    let moves = rw c.in-Some.is at c.in-Ok.ensures.moves in
    record {
      at_gate = c.next_front.ensures.at_gate;
      size = c.next_front.ensures.size ∙ inv.size;
      counts = c.in-Ok.ensures.faults ∙ inv.counts;
      file = λ t. c.next_front.ensures.file t ∙ inv.file t;
      room = omega (arith, inv.room, moves.1);
      seen = λ t head r.
          let found = rw c.in-Some.is at (c.in-Ok.ensures.reads t) in
          let here = subst (λ (f : FileState). FindsFront f.content c.loop-front.reader.offset c.next_front.new.reader.offset (Some c.in-Some.front)) (inv.file t) found in
          seen_more head (g.Y.Disk.state c.args.disk.now).file.content c.loop-front.place c.loop-front.reader.offset c.next_front.new.reader.offset (last_push c.loop-front.last_pushes.entries) (last_push c.note_push.new.last_pushes.entries)
          c.in-Some.front.body here
          (subst (λ (l : List ℕ). (q : ℕ) → last_push c.note_push.new.last_pushes.entries q ≡ noted (place_at l) c.loop-front.place (last_push c.loop-front.last_pushes.entries) q) c.bytes.ensures c.in_ok-note_push.ensures) (inv.seen t head r);
    }
