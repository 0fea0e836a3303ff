use Rattle.std.proofs.Common.{◌≡◌, ◌++◌, ◌∷◌, [], ◌∙◌, refl, inl, arith, length-append}
use Rattle.pktline_core.proofs.LinkLemmas.{later_more}
use Rattle.script_frames.proofs.FrameLemmas.{no_feed_more}
use Rattle.script_frames.proofs.ReadingLemmas.{takes_more}
use Rattle.script_frames.proofs.frames.read_line.Goals as goal

pub loop-byte-preserved : goal.loop-byte-preserved
loop-byte-preserved g c =
    let taken = rw c.in-Some.is at c.in_ok-byte.ensures.ok in
    let more : c.try_push.new.self.items ≡ c.loop-byte.line.items ++ c.in-Some.byte ∷ [] = c.in-Ok.ensures.ok in
    record {
      takes = rw more (takes_more _ _ _ _ _ c.loop-byte.invariant.takes taken);
      no_feed = rw more (no_feed_more c.loop-byte.line.items c.in-Some.byte c.loop-byte.invariant.no_feed c.if-byte-eq10.false);
      within = omega (arith, c.in-Ok.ensures.variant.0 refl, c.in-Ok.ensures.len);
      tells = c.in_ok-byte.ensures.tells ∙ c.loop-byte.invariant.tells;
      later = later_more _ _ _ c.loop-byte.invariant.later c.take_byte.ensures.later;
    }

pub returns-in_default-try_push-clause-err : goal.returns-in_default-try_push-clause-err
returns-in_default-try_push-clause-err g c =
    let taken = rw c.in-Some.is at c.in_ok-byte.ensures.ok in
    record {
      part = c.loop-byte.line.items ++ c.in-Some.byte ∷ [];
      takes = takes_more _ _ _ _ _ c.loop-byte.invariant.takes taken;
      no_feed = no_feed_more c.loop-byte.line.items c.in-Some.byte c.loop-byte.invariant.no_feed c.if-byte-eq10.false;
      ended = inl (omega (arith, c.in_default-try_push.ensures.full, length-append c.loop-byte.line.items (c.in-Some.byte ∷ [])));
    }
