use Rattle.std.proofs.Common.{◌≡◌, ◌+◌, ◌++◌, ◌∷◌, [], take, Some, None, refl, sym, ◌∙◌, ap, subst}
use Rattle.std.specs.Prelude.{List, ℕ, slice_get}
use Rattle.git_object.specs.Content.{Content}
use Rattle.git_object.specs.Object.{object_name}
use Rattle.git_object.specs.declared.object_id.ObjectId.{ObjectId}
use Rattle.ref_store.specs.Objects.{place_of, IsFirstCollision}
use Rattle.ref_store.specs.Segments.{all_of}
use Rattle.ref_store.proofs.PackLemmas.{SoFar, so_far_new, so_far_old, so_far_differs, so_far_all, place_so_far}
use Rattle.ref_store.proofs.lacking.find_lacking.Goals as goal

pub loop-i-preserved-in_default : goal.loop-i-preserved-in_default
loop-i-preserved-in_default c =
    let kept = all_of c.args.kept.now in
    let pack = c.args.pack.now in
    let o = c.index-pack-i.result in
    let found = place_so_far c.args.lens.now kept pack (c.len.result + c.loop-i.i) c.loop-i.i c.name-id.result c.requires.lens (ap (λ m. m + c.loop-i.i) c.len.ensures.len) in
    let none : place_of (kept ++ take c.loop-i.i pack) (object_name o) ≡ None = ap (place_of (kept ++ take c.loop-i.i pack)) (sym c.name-id.ensures) ∙ sym found ∙ sym c.in_default.ensures.place in
    let pushed = c.in_ok-push.ensures.items ∙ ap (λ (x : Content). c.loop-i.fresh.items ++ x ∷ []) c.in_ok-clone.ensures.cases in
    subst (λ (os : List Content). SoFar kept pack os (c.loop-i.i + 1)) (sym pushed) (so_far_new kept pack c.loop-i.fresh.items c.loop-i.i o c.loop-i-test.true c.index-pack-i.is none c.loop-i.invariant)

pub loop-i-preserved : goal.loop-i-preserved
loop-i-preserved c =
    let kept = all_of c.args.kept.now in
    let pack = c.args.pack.now in
    let o = c.index-pack-i.result in
    let found = place_so_far c.args.lens.now kept pack (c.len.result + c.loop-i.i) c.loop-i.i c.name-id.result c.requires.lens (ap (λ m. m + c.loop-i.i) c.len.ensures.len) in
    let some : place_of (kept ++ take c.loop-i.i pack) (object_name o) ≡ Some c.in-Some.first = ap (place_of (kept ++ take c.loop-i.i pack)) (sym c.name-id.ensures) ∙ sym found ∙ sym c.in-Some.ensures.place in
    let there = ap (λ os. slice_get os c.in-Some.first) (sym c.requires.lens) ∙ c.in-Some.ensures.object ∙ ap Some (sym (c.if-same_object.ensures.0 refl)) in
    so_far_old kept pack c.loop-i.fresh.items c.loop-i.i c.in-Some.first o c.loop-i-test.true c.index-pack-i.is some there c.loop-i.invariant

pub returns-in-loop-i : goal.returns-in-loop-i
returns-in-loop-i c =
    let kept = all_of c.args.kept.now in
    let pack = c.args.pack.now in
    let o = c.index-pack-i.result in
    let n_is = ap (λ m. m + c.loop-i.i) c.len.ensures.len in
    let found = place_so_far c.args.lens.now kept pack (c.len.result + c.loop-i.i) c.loop-i.i c.name-id.result c.requires.lens n_is in
    let some : place_of (kept ++ take c.loop-i.i pack) (object_name o) ≡ Some c.in-Some.first = ap (place_of (kept ++ take c.loop-i.i pack)) (sym c.name-id.ensures) ∙ sym found ∙ sym c.in-Some.ensures.place in
    let there = ap (λ os. slice_get os c.in-Some.first) (sym c.requires.lens) ∙ c.in-Some.ensures.object in
    let told = so_far_differs kept pack c.loop-i.fresh.items c.loop-i.i c.in-Some.first o c.in-Some.before.now c.loop-i-test.true c.index-pack-i.is some there (λ same. let no = c.if-same_object.ensures.1 same in cc) c.loop-i.invariant in
    subst (λ (id : ObjectId). IsFirstCollision (kept ++ pack) id c.in-Some.first (c.len.result + c.loop-i.i)) (sym c.name-id.ensures)
    (subst (λ (n : ℕ). IsFirstCollision (kept ++ pack) (object_name o) c.in-Some.first n) (sym n_is) told)

pub returns : goal.returns
returns c = so_far_all (all_of c.args.kept.now) c.args.pack.now c.loop-i.fresh.items c.loop-i.i c.loop-i-test.false c.loop-i.invariant
