use Rattle.std.proofs.Common.{◌<◌, length, arith, rules}
use Rattle.std.proofs.lemmas.Grind.{common_steps}
use Rattle.vref.proofs.TableLemmas.{parent_below, behind_starts, behind_continues}
use Rattle.vref.proofs.path_table.path_of.Goals as goal

pub loop-at-init : goal.loop-at-init
loop-at-init c = record { within = c.requires.within; behind = behind_starts c.args.rows.now c.args.place _ _ _ c.requires.linked c.requires.within c.in_ok-bytes.ensures.items c.in_ok-push_reversed.ensures }

pub bounds-rows-parent : goal.bounds-rows-parent
bounds-rows-parent c =
    let under = parent_below c.args.rows.now c.loop-at.at c.in-Some.parent _ c.requires.linked c.loop-at.invariant.within c.in-Some.is in
    omega (arith, under, c.loop-at.invariant.within)

pub offset_bounds-rows-parent : goal.offset_bounds-rows-parent
offset_bounds-rows-parent c =
    let under = parent_below c.args.rows.now c.loop-at.at c.in-Some.parent _ c.requires.linked c.loop-at.invariant.within c.in-Some.is in
    let below : c.in-Some.parent < length c.args.rows.now = omega (arith, under, c.loop-at.invariant.within) in
    first_of (search rules, omega (arith, below, c.element_fits.fits), grind (arith, common_steps, below))

pub loop-at-smaller : goal.loop-at-smaller
loop-at-smaller c = parent_below c.args.rows.now c.loop-at.at c.in-Some.parent _ c.requires.linked c.loop-at.invariant.within c.in-Some.is

pub loop-at-preserved : goal.loop-at-preserved
loop-at-preserved c =
    let under = parent_below c.args.rows.now c.loop-at.at c.in-Some.parent _ c.requires.linked c.loop-at.invariant.within c.in-Some.is in
    record {
      within = omega (arith, under, c.loop-at.invariant.within);
      behind = behind_continues c.args.rows.now c.args.place c.loop-at.at c.in-Some.parent _ _ _ _ _ c.requires.linked c.loop-at.invariant.within c.loop-at.invariant.behind c.in-Some.is c.in_ok-push.ensures.items c.in_ok-push_reversed-2.ensures;
    }
