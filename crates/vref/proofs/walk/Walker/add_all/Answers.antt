use Rattle.std.proofs.Common.{◌≡◌, ◌+◌, ◌≤◌, ◌++◌, List, length, map, reverse, refl, ◌∙◌, ap, ap₂, subst, arith}
use Rattle.vref.specs.Walk.{Stops, items_from, next_of, row_of, SortsItems}
use Rattle.vref.specs.declared.path_table.Row.{Row}
use Rattle.vref.specs.declared.walk.Item.{Item}
use Rattle.vref.specs.declared.walk.TheConstants.{MAX_ROWS}
use Rattle.vref.proofs.WalkLemmas.{not_many, too_many, stops, added, front_small, passed_on, spent_added}
use Rattle.vref.proofs.walk.Walker.add_all.Goals as goal

pub returns-then-are_too_many-clause-goes : goal.returns-then-are_too_many-clause-goes
returns-then-are_too_many-clause-goes c =
    let many = c.are_too_many.ensures.0 c.if-are_too_many.true in
    too_many c.args.lens.now c.args.root.old c.args.root.new c.args.self.now.rows.items c.args.self.now.order.items (next_of c.args.self.now.work.items) c.args.at c.args.list.now c.requires.walking c.requires.at c.requires.differing (omega (arith, many, c.len.ensures))

pub rows_of-requires : goal.rows_of-requires
rows_of-requires c = front_small c.args.lens.now c.args.root.old c.args.root.new c.args.self.now.rows.items c.args.self.now.order.items (next_of c.args.self.now.work.items) c.args.at c.requires.walking c.requires.at

pub returns-in_err-rows-clause-goes : goal.returns-in_err-rows-clause-goes
returns-in_err-rows-clause-goes c =
    passed_on c.from_residual.result c.in_err-rows.field-0.0 _ (Stops c.args.lens.now c.args.root.old c.args.root.new) c.from_residual.ensures.1
    (stops c.args.lens.now c.args.root.old c.args.root.new c.args.self.now.rows.items c.args.self.now.order.items (next_of c.args.self.now.work.items) c.args.at c.args.list.now c.requires.walking c.requires.at c.requires.differing c.in_err-rows.field-0.0 c.in_err-rows.ensures.stops)

pub returns-clause-goes : goal.returns-clause-goes
returns-clause-goes c =
    let few : length c.args.self.now.rows.items + length c.args.list.now ≤ MAX_ROWS = not_many _ c.len.result (length c.args.self.now.rows.items) (length c.args.list.now) c.are_too_many.ensures.1 c.if-are_too_many.false (omega (arith, c.len.ensures)) in
    let first : c.len-2.result ≡ length c.args.self.now.rows.items = omega (arith, c.len-2.ensures) in
    let items : c.in_ok-items.items.items ≡ items_from (length c.args.self.now.rows.items) (map (row_of c.args.at) c.args.list.now) =
    c.in_ok-items.ensures ∙ ap₂ (λ k (rs : List Row). items_from k rs) first (c.deref.ensures.value ∙ c.in_ok-rows.ensures.rows) in
    let sorts : SortsItems (items_from (length c.args.self.now.rows.items) (map (row_of c.args.at) c.args.list.now)) (reverse c.in_ok-items-2.items.items) =
    subst (λ (xs : List Item). SortsItems xs (reverse c.in_ok-items-2.items.items)) items c.in_ok-items-2.ensures in
    added c.args.lens.now c.args.root.old c.args.root.new c.args.self.now.rows.items c.args.self.now.order.items (next_of c.args.self.now.work.items) c.args.at c.args.list.now c.requires.walking c.requires.at c.requires.differing few c.in_ok-rows.ensures.short
    (reverse c.in_ok-items-2.items.items) sorts c.extend_from_slice.new.self.items c.args.self.now.work.items c.extend_from_slice-2.new.self.items c.in_ok-items-2.items.items
    (c.in_ok-extend_from_slice.ensures.items ∙ ap (λ (rs : List Row). c.args.self.now.rows.items ++ rs) (c.deref-2.ensures.value ∙ c.in_ok-rows.ensures.rows)) refl
    (c.in_ok-extend_from_slice-2.ensures.items ∙ ap (λ (xs : List Item). c.args.self.now.work.items ++ xs) c.deref-3.ensures.value) refl

pub returns-clause-spent : goal.returns-clause-spent
returns-clause-spent c =
    spent_added c.args.self.now _ c.len-2.result c.in_ok-rows.rows.items c.in_ok-items.items.items c.in_ok-items-2.items.items
    (c.in_ok-extend_from_slice.ensures.items ∙ ap (λ (rs : List Row). c.args.self.now.rows.items ++ rs) c.deref-2.ensures.value)
    (c.in_ok-items.ensures ∙ ap (λ (rs : List Row). items_from c.len-2.result rs) c.deref.ensures.value) c.in_ok-items-2.ensures.same
    (c.in_ok-extend_from_slice-2.ensures.items ∙ ap (λ (xs : List Item). c.args.self.now.work.items ++ xs) c.deref-3.ensures.value)
