use Rattle.std.proofs.Common.{◌≡◌, refl, sym, ap, subst, IfSome}
use Rattle.ref_store.specs.Fresh.{Fresh}
use Rattle.push_judging.proofs.PreparedLemmas.{prepared_fresh}
use Rattle.push_judging.proofs.judging.fresh_in.Goals as goal

pub returns-then-not-pending : goal.returns-then-not-pending
returns-then-not-pending c =
    prepared_fresh c.args.repo.now.objects c.args.lens.now c.args.pack.now c.in-Fresh.fresh c.in-Fresh.fresh c.requires c.in-Fresh.ensures.told refl (subst (λ o. IfSome o (λ prepared. prepared ≡ c.args.repo.now.objects)) (sym c.in-Fresh.ensures.unprepared) tt)

pub returns-in_ok-prepare-in-Fresh : goal.returns-in_ok-prepare-in-Fresh
returns-in_ok-prepare-in-Fresh c =
    let made = c.in_ok-prepare-in-Fresh.ensures in
    prepared_fresh c.args.repo.now.objects c.args.lens.now c.args.pack.now c.in-Fresh.fresh c.in_ok-prepare-in-Fresh.field-0 c.requires c.in-Fresh.ensures.told (ap (λ (f : Fresh). f.objects) made)
    (subst (λ o. IfSome o (λ prepared. prepared ≡ c.args.repo.now.objects)) (sym (ap (λ (f : Fresh). f.before) made)) refl)
