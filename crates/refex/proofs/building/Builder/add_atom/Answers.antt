use Rattle.std.proofs.Common.{arith}
use Rattle.refex.specs.Items.{atom_pattern}
use Rattle.refex.proofs.Stacks.{stacked_kept}
use Rattle.refex.proofs.building.Builder.add_atom.Goals as goal

pub returns : goal.returns
returns c = λ ps s. c.in_ok-put.ensures (atom_pattern c.args.atom) ps
    (stacked_kept c.args.self.now.tables.masks.items c.args.self.now.tables.follow.items c.args.self.now.tables.holes
    c.atom-piece.new.self.masks.items c.atom-piece.new.self.follow.items c.atom-piece.new.self.holes c.args.self.now.next c.atom-piece.ensures.below
    ps c.args.self.now.pieces.items c.args.self.now.next (omega arith) s)
    (rw c.atom-piece.ensures.place.0 c.atom-piece.ensures.piece)
