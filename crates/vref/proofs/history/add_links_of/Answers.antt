use Rattle.std.proofs.Common.{◌≡◌, ◌+◌, Bool, [], Option, IsTrue, sym, ap}
use Rattle.std.specs.Option.{option_map_or}
use Rattle.std.proofs.lemmas.Result.{IfOk-weaker}
use Rattle.git_object.specs.Content.{Content}
use Rattle.git_object.specs.Object.{parents_of}
use Rattle.ancestry.specs.Ancestors.{parents_at}
use Rattle.vref.specs.History.{AddsParents, AreLinksOf}
use Rattle.vref.proofs.LinkLemmas.{links_more, adds_none}
use Rattle.vref.proofs.history.add_links_of.Goals as goal

pub returns-in_default-get : goal.returns-in_default-get
returns-in_default-get c =
    let parents : parents_at c.args.lens.now c.in-Some.id.now ≡ [] = ap (λ (o : Option Content). option_map_or (λ o. parents_of o.kind o.body) o []) (sym c.in_default-get.ensures) in
    λ all.
    links_more c.args.lens.now c.args.ids.now.keys c.args.at c.in-Some.id.now [] c.args.links.now.items c.args.links.now.items c.requires (sym c.in-Some.ensures.key) parents
    (adds_none c.args.ids.now.keys c.args.at c.args.links.now.items)

pub returns : goal.returns
returns c =
    let object = c.in-Some-get.object.now in
    let new = c.add_links_to_parents.new.links.items in
    let parents : parents_at c.args.lens.now c.in-Some.id.now ≡ parents_of object.kind object.body = ap (λ (o : Option Content). option_map_or (λ o. parents_of o.kind o.body) o []) (sym c.in-Some-get.ensures) in
    IfOk-weaker c.add_links_to_parents.result
    (λ (all : Bool). IsTrue all → AddsParents c.args.ids.now.keys c.args.at (parents_of object.kind object.body) c.args.links.now.items new)
    (λ (all : Bool). IsTrue all → AreLinksOf (c.args.at + 1) c.args.lens.now c.args.ids.now.keys new)
    (λ all adds is. links_more c.args.lens.now c.args.ids.now.keys c.args.at c.in-Some.id.now (parents_of object.kind object.body) c.args.links.now.items new c.requires (sym c.in-Some.ensures.key) parents (adds is))
    c.add_links_to_parents.ensures
