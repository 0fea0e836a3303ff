use Rattle.std.proofs.Common.{◌∙◌}
use Rattle.vref.proofs.MarkLemmas.{are_marks, within_as_long}
use Rattle.vref.proofs.marks.mark.Goals as goal

pub spread-requires : goal.spread-requires
spread-requires c = within_as_long c.args.ids.now.keys c.mark_tips.new.words c.args.links.now (c.mark_tips.ensures.long ∙ c.requires.long) c.requires.within

pub is_closed-requires : goal.is_closed-requires
is_closed-requires c = within_as_long c.args.ids.now.keys c.spread.new.words c.args.links.now (c.spread.ensures.long ∙ c.mark_tips.ensures.long ∙ c.requires.long) c.requires.within

pub returns-clause-marks : goal.returns-clause-marks
returns-clause-marks c = λ closed objects links.
    are_marks objects c.args.ids.now.keys c.args.tips.now c.args.links.now c.mark_tips.new.words c.spread.new.words links (c.mark_tips.ensures.tips c.if-not-mark_tips.false) c.spread.ensures (c.is_closed.ensures closed)
