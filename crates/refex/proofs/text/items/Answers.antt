use Rattle.std.proofs.Common.{arith, sym, ap, ◌∙◌, ◌≡◌, ◌+◌, ◌++◌, length, length-drop, drop, map}
use Rattle.std.proofs.lemmas.List.{map-append}
use Rattle.refex.specs.Text.{items, items_from, item, is_at}
use Rattle.refex.specs.Items.{placed_of, item_of}
use Rattle.refex.proofs.Cutting.{begun_behind, begun_there, item_on, hole_on, items_over}
use Rattle.refex.proofs.text.items.Goals.{then-begins_with, else-begins_with}
use Rattle.refex.proofs.text.items.Goals as goal

pub loop-i-init : goal.loop-i-init
loop-i-init c = elim c.if-begins_with.branch [
  | then-begins_with w ↦
      let is : c.if-begins_with.i ≡ 1 = w.i-is in
      let b = begun_behind c.args.hole c.args.text.now (sym c.begins_with.ensures ∙ w.if-begins_with.true) in
      rw is (record { within = b.0; rest = b.1 ∙ ap (λ ts. map placed_of ts ++ items_from c.args.hole 1 0 (drop 1 c.args.text.now)) (sym c.new-tokens.ensures.items) })
  | else-begins_with w ↦
      let is : c.if-begins_with.i ≡ 0 = w.i-is in
      let b = begun_there c.args.hole c.args.text.now (sym c.begins_with.ensures ∙ w.if-begins_with.false) in
      rw is (record { within = omega arith; rest = b ∙ ap (λ ts. map placed_of ts ++ items_from c.args.hole 0 0 c.args.text.now) (sym c.new-tokens.ensures.items) })
]

pub loop-i-preserved : goal.loop-i-preserved
loop-i-preserved c =
    let none = ap (is_at c.loop-i.hole) (sym c.behind-rest.ensures) ∙ sym c.is_at.ensures.value ∙ c.if-is_at.false in
    let read = c.item-found.ensures.value ∙ ap (item c.loop-i.i) c.behind-rest.ensures in
    let taken = c.item-found.ensures.taken in
    let pushed = ap (map placed_of) c.in_ok-push.ensures.items ∙ map-append placed_of c.loop-i.tokens.items _ in
    record {
      within = let rest = ap length c.behind-rest.ensures in omega (arith, length-drop c.loop-i.i c.args.text.now);
      rest = item_on (items c.args.hole c.args.text.now) (map placed_of c.loop-i.tokens.items) c.loop-i.hole c.loop-i.i c.args.text.now (item_of c.item-found.result.0) c.item-found.result.1
          c.loop-i.invariant.rest c.loop-i-test.true none read taken.0 ∙ ap (λ xs. xs ++ items_from c.loop-i.hole (c.loop-i.i + c.item-found.result.1) 0 (drop (c.loop-i.i + c.item-found.result.1) c.args.text.now)) (sym pushed);
    }

pub loop-i-preserved-then-is_at : goal.loop-i-preserved-then-is_at
loop-i-preserved-then-is_at c =
    let here = ap (is_at c.loop-i.hole) (sym c.behind-rest.ensures) ∙ sym c.is_at.ensures.value ∙ c.if-is_at.true in
    let long = c.is_at.ensures.long c.if-is_at.true in
    let spelled = c.spelled-i.ensures in
    record {
      within = let rest = ap length c.behind-rest.ensures in omega (arith, length-drop c.loop-i.i c.args.text.now);
      rest = hole_on (items c.args.hole c.args.text.now) (map placed_of c.loop-i.tokens.items) (map placed_of c.push_hole.new.tokens.items) c.loop-i.hole c.loop-i.i c.args.text.now
          c.spelled-i.result c.loop-i.invariant.rest c.loop-i-test.true here spelled (omega arith) c.in_ok-push_hole.ensures;
    }

pub returns : goal.returns
returns c = items_over (items c.args.hole c.args.text.now) (map placed_of c.loop-i.tokens.items) c.loop-i.hole c.loop-i.i c.args.text.now c.loop-i.invariant.rest (omega arith)
