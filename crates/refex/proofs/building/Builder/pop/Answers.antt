use Rattle.refex.proofs.Stacks.{popped}
use Rattle.refex.proofs.building.Builder.pop.Goals as goal

pub returns-clause-small : goal.returns-clause-small
returns-clause-small c =
    let r = c.requires in
    let t = popped c.args.self.now.tables.masks.items c.args.self.now.tables.follow.items c.args.self.now.tables.holes r.0 r.1 c.args.self.now.pieces.items c.pop.new.self.items c.args.self.now.next c.in-Some.piece c.in-Some.ensures.items r.2 in
    (t.low, t.few)

pub returns-clause-taken : goal.returns-clause-taken
returns-clause-taken c =
    let r = c.requires in
    (popped c.args.self.now.tables.masks.items c.args.self.now.tables.follow.items c.args.self.now.tables.holes r.0 r.1 c.args.self.now.pieces.items c.pop.new.self.items c.args.self.now.next c.in-Some.piece c.in-Some.ensures.items r.2).taken

pub returns-clause-piece : goal.returns-clause-piece
returns-clause-piece c = λ p ps s.
    let t = popped c.args.self.now.tables.masks.items c.args.self.now.tables.follow.items c.args.self.now.tables.holes p ps c.args.self.now.pieces.items c.pop.new.self.items c.args.self.now.next c.in-Some.piece c.in-Some.ensures.items s in
    (t.piece, t.under)
