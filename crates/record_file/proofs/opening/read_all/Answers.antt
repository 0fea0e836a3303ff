use Rattle.std.proofs.Common.{◌∙◌, ℕ, List, subst, sym, ap}
use Rattle.std.specs.Prelude.{Err}
use Rattle.record_file.specs.Crashes.{FileState}
use Rattle.record_file.specs.Reading.{ReaderState, IsReadTo, IsRecordAt, ReadsNext}
use Rattle.record_file.proofs.ReadLemmas.{next_refused, reads_more}
use Rattle.record_file.proofs.OffsetLemmas.{bodies_more, more_place, more_offsets}
use Rattle.record_file.proofs.opening.read_all.Goals as goal

pub returns-in-Err-clause-refused : goal.returns-in-Err-clause-refused
returns-in-Err-clause-refused g c t head r =
    next_refused head _ _ _ c.next_record.new.self.offset c.in-Err.fault (c.loop-next.invariant.read t head r)
    (subst (λ (f : FileState). ReadsNext f.content c.loop-next.reader.offset c.next_record.new.self.offset (Err c.in-Err.fault)) (c.loop-next.invariant.file t) (c.in-Err.ensures.reads t))

pub loop-next-preserved : goal.loop-next-preserved
loop-next-preserved g c =
    let inv = c.loop-next.invariant in
    let moves = rw c.in-Some.is at c.in-Ok.ensures.moves in
    let pushed = c.in_ok-push.ensures.ok in
    record {
      at_gate = c.next_record.ensures.at_gate;
      counts = c.in-Ok.ensures.faults ∙ inv.counts;
      file = λ t. c.next_record.ensures.file t ∙ inv.file t;
      place = more_place _ _ _ _ _ pushed inv.place moves.0 _ (ap (λ (r : ReaderState). r.offset) moves.1);
      offsets = more_offsets _ _ _ _ _ pushed inv.place moves.0 inv.offsets;
      read = λ t head r.
          let found = rw c.in-Some.is at (c.in-Ok.ensures.reads t) in
          let here = subst (λ (f : FileState). IsRecordAt f.content c.loop-next.reader.offset c.in-Some.record.body c.next_record.new.self.offset) (inv.file t) found in
          subst (λ (l : List (List ℕ)). IsReadTo head l (g.D.Disk.state c.args.disk.now).file.content c.next_record.new.self.offset) (sym (bodies_more _ _ _ pushed))
          (reads_more head _ _ c.in-Some.record.body _ c.next_record.new.self.offset (inv.read t head r) here);
    }
