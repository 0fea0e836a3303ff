use Rattle.std.proofs.Common.{◌≡◌, ◌+◌, ◌++◌, ℕ, take, length, sym, ◌∙◌, ap, arith, length-append}
use Rattle.std.proofs.Math.Seq.{take-append-add}
use Rattle.pktline_core.proofs.LinkLemmas.{consumes_more, later_more, writing_more}
use Rattle.pktline_core.proofs.links.take_all.Goals as goal

pub loop-filled-preserved : goal.loop-filled-preserved
loop-filled-preserved g c =
    let so_far = c.loop-filled.invariant in
    let got = c.in-Got.ensures.taken in
    let front = c.split_at_mut.result.0.now in
    let len : length front ≡ c.loop-filled.filled = c.split_at_mut.ensures.front_len in
    let both : take (c.loop-filled.filled + c.in-Got.count) (front ++ c.take.new.room) ≡ front ++ take c.in-Got.count c.take.new.room =
    ap (λ (n : ℕ). take (n + c.in-Got.count) (front ++ c.take.new.room)) (sym len) ∙ take-append-add front c.take.new.room c.in-Got.count in
    let before = rw (sym c.split_at_mut.ensures.front) at so_far.consumed in
    record {
      within = omega (arith, length-append front c.take.new.room, len, got.1);
      consumed = rw both (consumes_more _ _ _ front (take c.in-Got.count c.take.new.room) before got.2);
      counted = omega (arith, so_far.counted, got.3);
      tells = c.in-Got.ensures.tells ∙ so_far.tells;
      writing = writing_more _ _ _ so_far.writing c.take.ensures.writing;
      later = later_more _ _ _ so_far.later c.take.ensures.later;
    }
