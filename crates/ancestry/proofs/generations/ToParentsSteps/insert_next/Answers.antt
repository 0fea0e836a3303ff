use Rattle.std.proofs.Common.{◌≡◌, false, List, Option, [], sym, ◌∙◌, ap, subst}
use Rattle.std.specs.Prelude.{OnOk}
use Rattle.std.specs.Option.{option_map_or}
use Rattle.git_object.specs.Content.{Content}
use Rattle.git_object.specs.Object.{parents_of}
use Rattle.git_object.specs.declared.object_id.ObjectId.{ObjectId}
use Rattle.ancestry.specs.Ancestors.{parents_at}
use Rattle.ancestry.specs.Generations.{is_low}
use Rattle.ancestry.specs.IdSet.{Adds}
use Rattle.ancestry.proofs.AboveLemmas.{above_low, above_past, above_on}
use Rattle.ancestry.proofs.ReachedLemmas.{adds_none}
use Rattle.ancestry.proofs.generations.ToParentsSteps.insert_next.Goals as goal

pub returns-then-is_low : goal.returns-then-is_low
returns-then-is_low c =
    let steps = c.args.self.now in
    let none = above_low steps.lens.now steps.known.now steps.least steps.past.now c.args.id (sym c.is_low.ensures ∙ c.if-is_low.true) in
    subst (λ (ids : List ObjectId). Adds c.args.set.now c.args.set.now ids) (sym none) (adds_none c.args.set.now)

pub returns-then-contains : goal.returns-then-contains
returns-then-contains c =
    let steps = c.args.self.now in
    let none = above_past steps.lens.now steps.known.now steps.least steps.past.now c.args.id (sym c.is_low.ensures ∙ c.if-is_low.false) (c.contains.ensures.0 c.if-contains.true) in
    subst (λ (ids : List ObjectId). Adds c.args.set.now c.args.set.now ids) (sym none) (adds_none c.args.set.now)

pub returns : goal.returns
returns c =
    let steps = c.args.self.now in
    let not_low : is_low steps.known.now steps.least c.args.id ≡ false = sym c.is_low.ensures ∙ c.if-is_low.false in
    let on = above_on steps.lens.now steps.known.now steps.least steps.past.now c.args.id not_low (λ there. cc (c.contains.ensures.1 there, c.if-contains.false)) in
    let parents : parents_at steps.lens.now c.args.id ≡ parents_of c.in-Some.object.now.kind c.in-Some.object.now.body = ap (λ (f : Option Content). option_map_or (λ o. parents_of o.kind o.body) f []) (sym c.in-Some.ensures) in
    subst (λ (ids : List ObjectId). OnOk c.insert_parents.result (Adds c.args.set.now c.insert_parents.new.set ids)) (sym (on ∙ parents)) c.insert_parents.ensures
