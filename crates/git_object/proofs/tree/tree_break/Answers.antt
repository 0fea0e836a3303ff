use Rattle.std.proofs.Common.{◌≡◌, ◌+◌, ◌-◌, ◌∷◌, length, sym, ◌∙◌, arith}
use Rattle.std.proofs.lemmas.Bool.{eqb-true}
use Rattle.git_object.specs.Tree.{entry_of, size}
use Rattle.git_object.proofs.TreeLemmas.{tree_entry_len}
use Rattle.git_object.proofs.TreeCheckLemmas.{break_from-nil, break_from-none, break_from-stops, break_from-goes, positive}
use Rattle.git_object.proofs.tree.tree_break.Goals as goal

pub returns-in_default : goal.returns-in_default
returns-in_default c =
    let left = c.loop-rest.invariant.left in
    let some = positive _ (sym c.is_empty.ensures ∙ c.loop-rest-test.true) in
    sym (left.2 ∙ break_from-none left.0 _ c.loop-rest.rest.now some (sym c.in_default.ensures))

pub returns-then-not-may_follow : goal.returns-then-not-may_follow
returns-then-not-may_follow c =
    let left = c.loop-rest.invariant.left in
    let may = (c.in_ok-may_follow.ensures left.0 left.1).0 in
    sym (left.2 ∙ break_from-stops left.0 _ c.loop-rest.rest.now _ _ (sym c.in-Some.ensures) (sym may ∙ c.if-not-may_follow.true))

pub loop-rest-smaller : goal.loop-rest-smaller
loop-rest-smaller c =
    let len = tree_entry_len c.loop-rest.rest.now c.in-Some.after.now (entry_of c.in-Some.entry) (sym c.in-Some.ensures) in
    omega arith

pub loop-rest-preserved : goal.loop-rest-preserved
loop-rest-preserved c =
    let left = c.loop-rest.invariant.left in
    let entry = entry_of c.in-Some.entry in
    let len = tree_entry_len c.loop-rest.rest.now c.in-Some.after.now (entry_of c.in-Some.entry) (sym c.in-Some.ensures) in
    let added = c.in_ok-may_follow.ensures left.0 left.1 in
    let sum : (length c.args.body.now - length c.loop-rest.rest.now) + size (entry_of c.in-Some.entry) ≡ length c.args.body.now - length c.in-Some.after.now = omega (arith, c.loop-rest.invariant.shorter) in
    record {
      shorter = omega (arith, c.loop-rest.invariant.shorter);
      left = (
        entry ∷ left.0,
        added.1 c.if-not-may_follow.false,
        left.2 ∙ break_from-goes left.0 _ _ c.loop-rest.rest.now _ entry (sym c.in-Some.ensures) (sym added.0 ∙ c.if-not-may_follow.false) sum,
      );
    }

pub returns : goal.returns
returns c =
    let left = c.loop-rest.invariant.left in
    sym (left.2 ∙ break_from-nil left.0 _ c.loop-rest.rest.now (eqb-true _ 0 (sym c.is_empty.ensures ∙ c.loop-rest-test.false)))
