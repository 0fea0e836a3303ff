use Rattle.std.proofs.Common.{ℕ, List, take, get_or, arith, rules, sym, subst}
use Rattle.std.proofs.lemmas.List.{take_more, take_all}
use Rattle.vref.specs.Advances.{AreFresh}
use Rattle.vref.proofs.ListLemmas.{contains_got}
use Rattle.vref.proofs.AdvanceLemmas.{fresh_none, fresh_more}
use Rattle.vref.proofs.advances.fresh_of.Goals as goal

pub loop-at-init : goal.loop-at-init
loop-at-init c = λ bit. fresh_none c.args.of_old.now c.args.of_new.now bit

pub bounds-of_new-at : goal.bounds-of_new-at
bounds-of_new-at c = omega (arith, c.requires.within (get_or c.args.merges.now c.loop-at.at-index 0) (contains_got c.args.merges.now c.loop-at.at-index 0 c.loop-at-test.true), c.requires.long)

pub offset_bounds-of_new-at : goal.offset_bounds-of_new-at
offset_bounds-of_new-at c = let below = c.requires.within (get_or c.args.merges.now c.loop-at.at-index 0) (contains_got c.args.merges.now c.loop-at.at-index 0 c.loop-at-test.true) in search (rules, c.requires.long)

pub bounds-of_old-at : goal.bounds-of_old-at
bounds-of_old-at c = c.requires.within (get_or c.args.merges.now c.loop-at.at-index 0) (contains_got c.args.merges.now c.loop-at.at-index 0 c.loop-at-test.true)

pub offset_bounds-of_old-at : goal.offset_bounds-of_old-at
offset_bounds-of_old-at c = let below = c.requires.within (get_or c.args.merges.now c.loop-at.at-index 0) (contains_got c.args.merges.now c.loop-at.at-index 0 c.loop-at-test.true) in search rules

pub loop-at-preserved : goal.loop-at-preserved
loop-at-preserved c =
    let at = get_or c.args.merges.now c.loop-at.at-index 0 in
    subst (λ (merges : List ℕ). AreFresh merges c.args.of_old.now c.args.of_new.now c.joined-fresh.result) (sym (take_more c.args.merges.now c.loop-at.at-index 0 c.loop-at-test.true))
    (fresh_more (take c.loop-at.at-index c.args.merges.now) c.args.of_old.now c.args.of_new.now at c.loop-at.fresh c.without.result c.joined-fresh.result c.loop-at.invariant
    c.without.ensures c.joined-fresh.ensures.left c.joined-fresh.ensures.right c.joined-fresh.ensures.only)

pub returns : goal.returns
returns c = subst (λ (merges : List ℕ). AreFresh merges c.args.of_old.now c.args.of_new.now c.loop-at.fresh) (take_all c.loop-at.at-index c.args.merges.now c.loop-at-test.false) c.loop-at.invariant
