use Rattle.std.proofs.Common.{◌∙◌}
use Rattle.conf_groups.proofs.EndLemmas.{back_same, back_other, back_none}
use Rattle.conf_groups.proofs.matching.skip_back.Goals as goal

pub returns-in_default-bytes : goal.returns-in_default-bytes
returns-in_default-bytes c = c.loop-left.invariant ∙ back_none c.loop-left.left.now c.loop-left.bytes.now c.in-len1-up.len_at_least c.in_default-bytes.len_below c.if-wanted-eq42.false

pub returns-then-wanted-byte : goal.returns-then-wanted-byte
returns-then-wanted-byte c =
    c.loop-left.invariant ∙ back_other c.loop-left.left.now c.loop-left.bytes.now c.in-len1-up.len_at_least c.in-len1-up-bytes.len_at_least c.if-wanted-eq42.false c.if-wanted-byte.true

pub loop-left-preserved : goal.loop-left-preserved
loop-left-preserved c =
    c.loop-left.invariant ∙ back_same c.loop-left.left.now c.loop-left.bytes.now c.in-len1-up.len_at_least c.in-len1-up-bytes.len_at_least c.if-wanted-eq42.false c.if-wanted-byte.false
