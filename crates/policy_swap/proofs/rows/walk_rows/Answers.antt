use Rattle.std.proofs.Common.{◌++◌, ◌∷◌, [], List, Some, sym, ◌∙◌, ap, subst, arith}
use Rattle.policy_swap.specs.Rows.{Goes, Stops}
use Rattle.policy_swap.specs.declared.rows.Row.{Row}
use Rattle.policy_swap.specs.declared.rows.Row.TheVariants.{Directory}
use Rattle.policy_swap.proofs.WalkLemmas.{met_root, root_right, passed_on, walked}
use Rattle.policy_swap.proofs.rows.walk_rows.Goals as goal

pub loop-at-init : goal.loop-at-init
loop-at-init c =
    let root : Row = Directory (record { front = Some c.in_ok-of.field-0; tree = c.args.tree }) in
    record {
      goes = subst (λ (rows : List Row). Goes c.args.lens.now c.args.tree rows 0) (sym (c.in_ok-push.ensures.items ∙ ap (λ (rows : List Row). rows ++ root ∷ []) c.new-rows.ensures.items))
          (met_root c.args.lens.now c.args.tree root (root_right c.args.lens.now c.args.tree c.in_ok-of.field-0 c.in_ok-of.ensures));
      right = c.new-trees.ensures;
    }

pub returns-in_err-expand_row : goal.returns-in_err-expand_row
returns-in_err-expand_row c =
    passed_on c.from_residual-in_err-expand_row.result c.in_err-expand_row.field-0.0 _ (Stops c.args.lens.now c.args.tree) c.from_residual-in_err-expand_row.ensures.1
    (c.in_err-expand_row.ensures.goes c.args.tree c.loop-at.invariant.goes)

pub loop-at-preserved : goal.loop-at-preserved
loop-at-preserved c = record {
  goes = c.in_ok-expand_row.ensures.goes c.args.tree c.loop-at.invariant.goes;
  right = c.in_ok-expand_row.ensures.right;
}

pub returns : goal.returns
returns c = walked c.args.lens.now c.args.tree c.loop-at.rows.items c.loop-at.at (omega arith) c.loop-at.invariant.goes
