use Rattle.std.proofs.Common.{◌++◌, ◌∷◌, [], ap, ◌∙◌}
use Rattle.record_file.specs.Groups.{BuilderState}
use Rattle.record_file.proofs.GroupLemmas.{finished, finished_bodies, sizes_more, group_more}
use Rattle.record_file.proofs.record_group.RecordBuilder.finish.Goals as goal

pub invariant_of-result : goal.invariant_of-result
invariant_of-result c =
    let inv = c.self.invariant in
    let e = c.in_ok-close.ensures in
    finished _ _ _ e.ok (sizes_more _ _ _ _ e.sizes inv.same) (group_more _ _ inv.fit e.fits)

pub returns : goal.returns
returns c =
    let inv = c.self.invariant in
    let e = c.in_ok-close.ensures in
    finished_bodies _ _ _ e.ok (sizes_more _ _ _ _ e.sizes inv.same) (group_more _ _ inv.fit e.fits) ∙ ap (λ (w : BuilderState). w.bodies ++ w.body ∷ []) c.self.view_is
