use Rattle.std.proofs.Common.{arith, ◌∙◌, ◌∷◌}
use Rattle.refex.specs.Pattern.{Then}
use Rattle.refex.proofs.Stacks.{stacked_kept, piece_in}
use Rattle.refex.proofs.building.Builder.join_two.Goals as goal

pub pop-b-requires : goal.pop-b-requires
pop-b-requires c = let r = c.requires in (r.1, r.0 ∷ r.2, r.3)

pub pop-a-requires : goal.pop-a-requires
pop-a-requires c = let r = c.requires in (r.0, r.2, (c.pop-b.ensures.piece r.1 (r.0 ∷ r.2) r.3).1)

pub returns : goal.returns
returns c = λ p q ps s.
    let b = c.pop-b.ensures.piece q (p ∷ ps) s in
    let a = c.pop-a.ensures.piece p ps b.1 in
    c.in_ok-put.ensures (Then p q) ps
    (stacked_kept c.pop-a.new.self.tables.masks.items c.pop-a.new.self.tables.follow.items c.pop-a.new.self.tables.holes
    c.join-piece.new.self.masks.items c.join-piece.new.self.follow.items c.join-piece.new.self.holes c.pop-a.result.lo c.join-piece.ensures.below
    ps c.pop-a.new.self.pieces.items c.pop-a.new.self.next (omega arith) a.1)
    (c.join-piece.ensures.piece p q
    (piece_in c.pop-a.new.self.tables c.pop-b.new.self.tables c.pop-a.ensures.tables c.pop-a.result.lo c.pop-a.result.count c.pop-a.result.first p a.0)
    (piece_in c.pop-a.new.self.tables c.args.self.now.tables (c.pop-a.ensures.tables ∙ c.pop-b.ensures.tables) c.pop-b.result.lo c.pop-b.result.count c.pop-b.result.first q b.0))
