use Rattle.std.proofs.Common.{◌≡◌, ◌≤◌, ◌++◌, List, sym, ◌∙◌, ap, arith, length, refl, subst, length-append}
use Rattle.std.specs.List.{list_any}
use Rattle.std.specs.Option.{IfSome}
use Rattle.ref_store.specs.Objects.{HasNamesOnce, with_pack}
use Rattle.ref_store.specs.Store.{Store}
use Rattle.hub_history.specs.declared.outcome.Outcome.TheVariants.{Collided, Full}
use Rattle.hub_history.specs.Push.{is_done}
use Rattle.hub_history.specs.State.{Repository}
use Rattle.hub_history.proofs.PushLemmas.{none_alike}
use Rattle.push_settling.specs.Basis.{AreLeft, StandsOn, changed_to, same_in}
use Rattle.push_settling.specs.declared.basis.Basis.{Basis}
use Rattle.push_settling.specs.declared.settling.Left.{Left}
use Rattle.push_settling.proofs.BasisLemmas.{are_left}
use Rattle.push_settling.proofs.CollisionLemmas.{collision_none}
use Rattle.push_settling.proofs.PushLemmas.{none_left, all_collided, all_full, as_in_order, ok_along, ok_along_both}
use Rattle.push_settling.proofs.settling.settle.Goals as goal

pub settle_with-requires-clause-behind : goal.settle_with-requires-clause-behind
settle_with-requires-clause-behind c = subst (λ (b : Basis). b.prepared.objects ≡ b.prepared.before ++ c.args.request.now.pack) (sym c.compared.ensures.same) c.requires.behind

pub settle_with-requires-clause-stands : goal.settle_with-requires-clause-stands
settle_with-requires-clause-stands c = subst (StandsOn c.args.now.now.objects) (sym c.compared.ensures.same) c.requires.stands

pub settle_with-requires-clause-left : goal.settle_with-requires-clause-left
settle_with-requires-clause-left c =
    let objects = c.args.now.now.objects in
    let pack = c.args.request.now.pack in
    let fresh = c.in-Fresh.fresh.objects in
    let told = c.in-Fresh.ensures.told in
    subst (λ (b : Basis). AreLeft objects b (objects ++ fresh)) (sym c.compared.ensures.same)
    (are_left objects c.args.basis pack fresh c.requires.stands c.requires.behind told.1 (c.requires.among (collision_none objects pack told.0)))

pub returns-in-Fresh-clause-outcomes : goal.returns-in-Fresh-clause-outcomes
returns-in-Fresh-clause-outcomes c =
    let now = c.args.now.now in
    let pack = c.args.request.now.pack in
    let told = c.in-Fresh.ensures.told in
    let few : length (with_pack now.objects pack) ≤ 4294967295 = omega (arith, ap length told.1, length-append now.objects c.in-Fresh.fresh.objects, told.3) in
    ok_along c.settle_with.result _ _
    (λ d t. t ∙ as_in_order now pack c.args.request.now.commands c.args.request.now.atomic c.args.judged.now told.0 few)
    c.settle_with.ensures.outcomes

pub returns-in-Collision-clause-outcomes : goal.returns-in-Collision-clause-outcomes
returns-in-Collision-clause-outcomes c =
    let now = c.args.now.now in
    let once : HasNamesOnce now.objects = subst (λ (s : Store). HasNamesOnce s.objects) c.repo.ensures c.count-count.ensures.names in
    ok_along c.refuse_all.result _ _
    (λ d told. told ∙ all_collided now c.args.request.now.pack c.args.request.now.commands c.args.request.now.atomic c.args.judged.now c.in-Collision.id c.in-Collision.kept c.in-Collision.given once c.in-Collision.ensures.told)
    c.refuse_all.ensures.outcomes

pub returns-in-Collision-clause-next : goal.returns-in-Collision-clause-next
returns-in-Collision-clause-next c =
    let now = c.args.now.now in
    ok_along_both c.refuse_all.result _ _ _
    (λ d told is. ap changed_to is ∙ none_left now (with_pack now.objects c.args.request.now.pack) c.args.request.now.commands d.outcomes (ap (list_any is_done) told ∙ none_alike (Collided c.in-Collision.id) refl c.args.request.now.commands))
    c.refuse_all.ensures.outcomes c.refuse_all.ensures.left

pub returns-in-Full-clause-outcomes : goal.returns-in-Full-clause-outcomes
returns-in-Full-clause-outcomes c =
    let now = c.args.now.now in
    let told = c.in-Full.ensures.told in
    ok_along c.refuse_all-in-Full.result _ _
    (λ d t. t ∙ all_full now c.args.request.now.pack c.args.request.now.commands c.args.request.now.atomic c.args.judged.now c.in-Full.count told.0 told.1 told.2)
    c.refuse_all-in-Full.ensures.outcomes

pub returns-in-Full-clause-next : goal.returns-in-Full-clause-next
returns-in-Full-clause-next c =
    let now = c.args.now.now in
    ok_along_both c.refuse_all-in-Full.result _ _ _
    (λ d told is. ap changed_to is ∙ none_left now (with_pack now.objects c.args.request.now.pack) c.args.request.now.commands d.outcomes (ap (list_any is_done) told ∙ none_alike (Full c.in-Full.count) refl c.args.request.now.commands))
    c.refuse_all-in-Full.ensures.outcomes c.refuse_all-in-Full.ensures.left

pub returns-in-Collision-clause-same : goal.returns-in-Collision-clause-same
returns-in-Collision-clause-same c =
    ok_along c.refuse_all.result _ _ (λ d is. subst (λ (l : Left). IfSome (same_in l) (λ (same : Repository). same ≡ c.args.now.now)) (sym is) tt) c.refuse_all.ensures.left

pub returns-in-Full-clause-same : goal.returns-in-Full-clause-same
returns-in-Full-clause-same c =
    ok_along c.refuse_all-in-Full.result _ _ (λ d is. subst (λ (l : Left). IfSome (same_in l) (λ (same : Repository). same ≡ c.args.now.now)) (sym is) tt) c.refuse_all-in-Full.ensures.left
