use Rattle.std.proofs.Common.{◌+◌, ◌++◌, ◌∷◌, [], drop, refl, arith}
use Rattle.record_file.specs.Groups.{bodies_in}
use Rattle.record_file.proofs.GroupLemmas.{next_built, next_view, sizes_more, fit_more, ends_so}
use Rattle.record_file.proofs.record_group.RecordBuilder.next_record.Goals as goal

pub invariant_of-self-2 : goal.invariant_of-self-2
invariant_of-self-2 c =
    let inv = c.self.invariant in
    let e = c.in_ok-close.ensures in
    let body = drop (c.self.inside.start + 9) c.self.inside.bytes.items in
    let bodies = bodies_in c.self.inside.sizes.items c.self.inside.bytes.items in
    next_built c.close.new.bytes.items _ _ (bodies ++ body ∷ []) _ e.ok refl refl (ends_so c.close.new.bytes.items (1 ∷ 0 ∷ 0 ∷ 0 ∷ 0 ∷ 0 ∷ 0 ∷ 0 ∷ 0 ∷ []) (bodies ++ body ∷ []) c.len.result e.ok refl (omega (arith, c.len.ensures, c.close.new.bytes.ok.0)))
    (sizes_more _ _ _ _ e.sizes inv.same) (fit_more _ _ inv.fit e.fits)

pub returns-clause-ok : goal.returns-clause-ok
returns-clause-ok c =
    let inv = c.self.invariant in
    let e = c.in_ok-close.ensures in
    let body = drop (c.self.inside.start + 9) c.self.inside.bytes.items in
    let bodies = bodies_in c.self.inside.sizes.items c.self.inside.bytes.items in
    next_view c.close.new.bytes.items _ _ (bodies ++ body ∷ []) _ e.ok refl refl (ends_so c.close.new.bytes.items (1 ∷ 0 ∷ 0 ∷ 0 ∷ 0 ∷ 0 ∷ 0 ∷ 0 ∷ 0 ∷ []) (bodies ++ body ∷ []) c.len.result e.ok refl (omega (arith, c.len.ensures, c.close.new.bytes.ok.0)))
    (sizes_more _ _ _ _ e.sizes inv.same) (fit_more _ _ inv.fit e.fits) c.args.self.now bodies body refl c.self.view_is
