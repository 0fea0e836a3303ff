use Rattle.std.proofs.Common.{arith}
use Rattle.refex.specs.Pattern.{Repeat}
use Rattle.refex.proofs.Stacks.{stacked_kept, piece_in}
use Rattle.refex.proofs.building.Builder.repeat_one.Goals as goal

pub returns : goal.returns
returns c = λ p ps s.
    let a = c.pop-a.ensures.piece p ps s in
    c.in_ok-put.ensures (Repeat p c.args.bounds.least c.args.bounds.most) ps
    (stacked_kept c.pop-a.new.self.tables.masks.items c.pop-a.new.self.tables.follow.items c.pop-a.new.self.tables.holes
    c.times-piece.new.self.masks.items c.times-piece.new.self.follow.items c.times-piece.new.self.holes c.pop-a.result.lo c.times-piece.ensures.below
    ps c.pop-a.new.self.pieces.items c.pop-a.new.self.next (omega arith) a.1)
    (c.times-piece.ensures.piece p
    (piece_in c.pop-a.new.self.tables c.args.self.now.tables c.pop-a.ensures.tables c.pop-a.result.lo c.pop-a.result.count c.pop-a.result.first p a.0))
