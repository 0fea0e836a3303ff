use Rattle.std.proofs.Common.{◌≡◌, ◌+◌, ℕ, List, length, take, refl, sym, ap, subst, arith, Contains}
use Rattle.std.specs.List.{AllZip}
use Rattle.ancestry.specs.declared.ancestors.Advance.{Advance}
use Rattle.vref.specs.Advances.{IsAdvance}
use Rattle.vref.specs.Marks.{AreWithin, MarksAncestors}
use Rattle.vref.proofs.ListLemmas.{of_some, place_small, zip_more}
use Rattle.vref.proofs.MarkLemmas.{links_within}
use Rattle.vref.proofs.AdvanceLemmas.{fresh_same, marks_same, portion_advance}
use Rattle.vref.proofs.advances.History.advances_of_portion.Goals as goal

pub marks_of-requires-clause-within : goal.marks_of-requires-clause-within
marks_of-requires-clause-within c =
    let ids = c.self.inside.ids.keys in
    subst (λ (links : List (ℕ × ℕ)). AreWithin (length ids) links) (sym c.deref.ensures.value) (links_within c.self.inside.lens.now ids c.self.inside.links.items (length ids) c.self.invariant.0 refl)

pub marks_of-requires-2-clause-within : goal.marks_of-requires-2-clause-within
marks_of-requires-2-clause-within c =
    let ids = c.self.inside.ids.keys in
    subst (λ (links : List (ℕ × ℕ)). AreWithin (length ids) links) (sym c.deref-3.ensures.value) (links_within c.self.inside.lens.now ids c.self.inside.links.items (length ids) c.self.invariant.0 refl)

pub fresh_of-fresh-requires-clause-within : goal.fresh_of-fresh-requires-clause-within
fresh_of-fresh-requires-clause-within c = λ i among.
    let merge = c.self.invariant.1.only i (subst (λ (merges : List ℕ). Contains merges i) c.deref-5.ensures.value among) in
    let long = of_some c.in_ok-of_old.field-0 c.in-Some.of_old (λ words. length words.items ≡ length c.self.inside.ids.keys) c.in-Some.is c.in_ok-of_old.ensures.long in
    omega (arith, place_small c.self.inside.ids.keys merge.0 i merge.1, long, ap length c.deref-6.ensures.value)

pub loop-k-preserved : goal.loop-k-preserved
loop-k-preserved c =
    let inside = c.self.inside in
    let ids = inside.ids.keys in
    let marks_old =
    marks_same ids c.deref-2.result.now c.in_ok-olds.olds.items c.deref.result.now inside.links.items c.in-Some.of_old.items c.deref.ensures.value c.deref-2.ensures.value
    (of_some c.in_ok-of_old.field-0 c.in-Some.of_old (λ words. MarksAncestors ids c.deref.result.now c.deref-2.result.now words.items) c.in-Some.is c.in_ok-of_old.ensures.marks) in
    let marks_new =
    marks_same ids c.deref-4.result.now c.in_ok-news.news.items c.deref-3.result.now inside.links.items c.in-Some-2.of_new.items c.deref-3.ensures.value c.deref-4.ensures.value
    (of_some c.in_ok-of_new.field-0 c.in-Some-2.of_new (λ words. MarksAncestors ids c.deref-3.result.now c.deref-4.result.now words.items) c.in-Some-2.is c.in_ok-of_new.ensures.marks) in
    let fresh =
    fresh_same c.deref-5.result.now inside.merges.items c.deref-6.result.now c.in-Some.of_old.items c.deref-7.result.now c.in-Some-2.of_new.items c.fresh_of-fresh.result
    c.deref-5.ensures.value c.deref-6.ensures.value c.deref-7.ensures.value c.fresh_of-fresh.ensures in
    subst (λ (advances : List Advance). AllZip (IsAdvance c.args.self.now) (take (c.loop-k.k + 1) c.args.pairs.now) advances) (sym c.in_ok-push.ensures.items)
    (zip_more (IsAdvance c.args.self.now) c.args.pairs.now c.loop-k.advances.items c.loop-k.k _ _ c.loop-k-test.true c.loop-k.invariant
    (portion_advance inside.lens.now c.args.self.now ids c.in_ok-olds.olds.items c.in_ok-news.news.items inside.links.items inside.merges.items c.in-Some.of_old.items c.in-Some-2.of_new.items
    c.deref-in-loop-k.result.now c.args.pairs.now c.loop-k.k c.fresh_of-fresh.result _ c.is_marked.result c.has.result c.self.view_is c.deref-in-loop-k.ensures.value c.self.invariant.0 c.self.invariant.1
    marks_old marks_new c.in_ok-olds.ensures c.in_ok-news.ensures c.loop-k-test.true fresh c.is_marked.ensures c.has.ensures))
