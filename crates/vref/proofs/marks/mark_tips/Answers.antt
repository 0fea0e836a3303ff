use Rattle.std.proofs.Common.{arith, sym, ◌∙◌}
use Rattle.std.proofs.lemmas.List.{length-set}
use Rattle.std.proofs.lemmas.Option.{slice_get-get_or}
use Rattle.vref.proofs.MarkLemmas.{tips_more}
use Rattle.vref.proofs.marks.mark_tips.Goals as goal

pub loop-k-preserved : goal.loop-k-preserved
loop-k-preserved c = record {
  tips = tips_more c.args.ids.now.keys c.args.tips.now c.loop-k.words c.loop-k.k c.in-Some.at c.with.result _ c.loop-k.invariant.tips (slice_get-get_or c.args.tips.now c.loop-k.k _ c.loop-k-test.true)
      (sym c.place_of.ensures.place ∙ c.in-Some.is) (omega (arith, c.in-Some.ensures.within, c.loop-k.invariant.long, c.requires.long)) c.with.ensures.same c.with.ensures.keeps c.with.ensures.only;
  long = length-set c.loop-k.words c.in-Some.at c.with.result ∙ c.loop-k.invariant.long;
}
