use Rattle.std.proofs.Common.{arith}
use Rattle.refex.proofs.SetLemmas.{Has-and, Has-both}
use Rattle.refex.proofs.Pieces.{piece_means, one_hole}
use Rattle.refex.proofs.machine.finish.Goals as goal

pub returns : goal.returns
returns c = λ p f.
    piece_means c.args.tables.masks.items c.args.tables.follow.items c.args.tables.holes _ c.args.piece.lo c.args.piece.count c.args.piece.first p (omega arith)
    (λ k small. (λ h. Has-both c.args.tables.holes c.below.result k h (c.below.ensures.has k (omega arith)), λ h. (Has-and c.args.tables.holes c.below.result k h).0)) f

pub after_hole-after-requires-clause-one : goal.after_hole-after-requires-clause-one
after_hole-after-requires-clause-one c = λ h k has_h has_k.
    let x = Has-and c.args.tables.holes c.below.result h has_h in
    let y = Has-and c.args.tables.holes c.below.result k has_k in
    one_hole c.args.tables.holes c.args.piece.count h k (omega arith) c.requires.apart (c.below.ensures.only h x.1) (c.below.ensures.only k y.1) x.0 y.0
