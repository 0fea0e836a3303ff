use Rattle.std.proofs.Common.{◌∙◌, arith}
use Rattle.record_file.proofs.ImageLemmas.{in_range, in_reverse}
use Rattle.record_file.proofs.pending_data.image_of.Goals as goal

pub loop-at-preserved : goal.loop-at-preserved
loop-at-preserved c = record {
  long = c.fill.ensures.long ∙ c.loop-at.invariant.long;
  stays = λ place lt out. c.fill.ensures.others place (λ here. out (in_range place c.loop-at.at-index c.args.ranges.now (0, 0) c.loop-at-test.true here.0 here.1)) ∙ c.loop-at.invariant.stays place lt out;
}

pub returns : goal.returns
returns c = record {
  no_shorter = omega (arith, c.loop-at.invariant.long, c.requires.in_order);
  no_longer = omega (arith, c.loop-at.invariant.long);
  stays = λ place lt out. c.loop-at.invariant.stays place lt (λ here. out (in_reverse place c.args.ranges.now here));
}
