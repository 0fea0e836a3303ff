use Rattle.std.proofs.Common.{length, rules}
use Rattle.vref.proofs.MarkLemmas.{within_got}
use Rattle.vref.proofs.marks.is_closed.Goals as goal

pub bounds-words-from : goal.bounds-words-from
bounds-words-from c = (within_got (length c.args.words.now) c.args.links.now c.loop-k.k c.requires c.loop-k-test.true).0

pub bounds-words-to : goal.bounds-words-to
bounds-words-to c = (within_got (length c.args.words.now) c.args.links.now c.loop-k.k c.requires c.loop-k-test.true).1

pub offset_bounds-words-from : goal.offset_bounds-words-from
offset_bounds-words-from c = let below = (within_got (length c.args.words.now) c.args.links.now c.loop-k.k c.requires c.loop-k-test.true).0 in search rules

pub offset_bounds-words-to : goal.offset_bounds-words-to
offset_bounds-words-to c = let below = (within_got (length c.args.words.now) c.args.links.now c.loop-k.k c.requires c.loop-k-test.true).1 in search rules
