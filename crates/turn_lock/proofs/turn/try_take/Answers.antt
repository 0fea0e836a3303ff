use Rattle.std.proofs.Common.{◌<◌, arith}
use Rattle.turn_lock.proofs.RuleKept.{try_allows}
use Rattle.turn_lock.proofs.turn.try_take.Goals as goal

pub compare_exchange-requires : goal.compare_exchange-requires
compare_exchange-requires g c =
    let words : 0 < c.args.words.now.table_id.words = omega (arith, c.requires.words) in
    (c.requires.table, words, rw c.requires.rests.0 (try_allows g.T.Kept.entries g.T.Kept.caller c.args.seat.now.id c.args.words.now.table_id.slots c.args.seat.now.me.0 c.requires.own))
