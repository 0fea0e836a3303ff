use Rattle.std.proofs.Common.{◌∙◌, ◌∷◌}
use Rattle.refex.specs.Pattern.{Either}
use Rattle.refex.proofs.Stacks.{piece_in}
use Rattle.refex.proofs.building.Builder.choose_of_two.Goals as goal

pub pop-b-requires : goal.pop-b-requires
pop-b-requires c = let r = c.requires in (r.1, r.0 ∷ r.2, r.3)

pub pop-a-requires : goal.pop-a-requires
pop-a-requires c = let r = c.requires in (r.0, r.2, (c.pop-b.ensures.piece r.1 (r.0 ∷ r.2) r.3).1)

pub returns : goal.returns
returns c = λ p q ps s.
    let b = c.pop-b.ensures.piece q (p ∷ ps) s in
    let a = c.pop-a.ensures.piece p ps b.1 in
    c.in_ok-put.ensures (Either p q) ps a.1
    (c.either-piece.ensures.piece p q
    (piece_in c.pop-a.new.self.tables c.pop-b.new.self.tables c.pop-a.ensures.tables c.pop-a.result.lo c.pop-a.result.count c.pop-a.result.first p a.0)
    (piece_in c.pop-a.new.self.tables c.args.self.now.tables (c.pop-a.ensures.tables ∙ c.pop-b.ensures.tables) c.pop-b.result.lo c.pop-b.result.count c.pop-b.result.first q b.0))
