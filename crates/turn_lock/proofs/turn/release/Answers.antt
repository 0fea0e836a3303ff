use Rattle.std.proofs.Common.{◌<◌, arith}
use Rattle.turn_lock.proofs.RuleKept.{release_allows}
use Rattle.turn_lock.proofs.turn.release.Goals as goal

pub swap-requires : goal.swap-requires
swap-requires g c =
    let words : 0 < c.args.words.now.table_id.words = omega (arith, c.requires.words) in
    let may = c.requires.may in
    (c.requires.table, words, rw may.3 (release_allows g.T.Kept.entries g.T.Kept.caller c.args.seat.now.id c.args.words.now.table_id.slots c.args.seat.now.me.0 may.2 may.0 may.1 may.4))
