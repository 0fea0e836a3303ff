use Rattle.std.proofs.Common.{List, [], map, take, sym, subst, arith}
use Rattle.std.proofs.lemmas.List.{take_all}
use Rattle.git_object.specs.Tree.{Entry, entry_of}
use Rattle.git_object.specs.declared.tree.TreeEntry.{TreeEntry}
use Rattle.vref.specs.Walk.{tree_at}
use Rattle.policy_swap.specs.Rows.{Expands, Stops}
use Rattle.policy_swap.proofs.WalkLemmas.{map_push, next_entry, passed_on}
use Rattle.policy_swap.proofs.rows.add_entries.Goals as goal

-- what the loop reads where there is nothing
abbrev none : TreeEntry
none = record { mode = record { ref_ptr = (0, 0); now = [] }; name = record { ref_ptr = (0, 0); now = [] }; id = record { bytes = [] } }

pub loop-entry-preserved : goal.loop-entry-preserved
loop-entry-preserved c tree at names fits are start =
    let next = next_entry c.args.lens.now (tree_at c.args.lens.now tree names) c.args.list.now c.loop-entry.entry-index none c.loop-entry-test.true are in
    subst (λ (es : List Entry). Expands c.args.lens.now tree c.add_row.new.rows.items at names es) (sym (map_push c.args.list.now c.loop-entry.entry-index none c.loop-entry-test.true))
    (c.in_ok-add_row.ensures tree at names (map entry_of (take c.loop-entry.entry-index c.args.list.now)) fits next.0 next.1 (c.loop-entry.invariant tree at names fits are start))

pub returns-in_err-add_row : goal.returns-in_err-add_row
returns-in_err-add_row c tree at names fits are start =
    let next = next_entry c.args.lens.now (tree_at c.args.lens.now tree names) c.args.list.now c.loop-entry.entry-index none c.loop-entry-test.true are in
    passed_on c.from_residual.result c.in_err-add_row.field-0.0 _ (Stops c.args.lens.now tree) c.from_residual.ensures.1
    (c.in_err-add_row.ensures tree at names (map entry_of (take c.loop-entry.entry-index c.args.list.now)) fits next.0 next.1 (c.loop-entry.invariant tree at names fits are start))

pub returns : goal.returns
returns c tree at names fits are start =
    subst (λ (list : List TreeEntry). Expands c.args.lens.now tree c.loop-entry.rows.items at names (map entry_of list)) (take_all c.loop-entry.entry-index c.args.list.now (omega arith))
    (c.loop-entry.invariant tree at names fits are start)
