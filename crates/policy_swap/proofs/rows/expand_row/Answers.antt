use Rattle.std.proofs.Common.{ℕ, List, Option, sym, ◌∙◌, subst, ◌+◌, map}
use Rattle.git_object.specs.Tree.{Entry, entry_of}
use Rattle.git_object.specs.declared.object_id.ObjectId.{ObjectId}
use Rattle.vref.specs.Rows.{object_at}
use Rattle.vref.specs.Walk.{tree_at}
use Rattle.policy_swap.specs.Rows.{Expands, Goes, IsFront, Stops}
use Rattle.policy_swap.specs.Trees.{AreEntries}
use Rattle.policy_swap.proofs.WalkLemmas.{beside, expanded, in_folder, lacking, weaker}
use Rattle.policy_swap.proofs.rows.expand_row.Goals as goal

pub returns-in_default : goal.returns-in_default
returns-in_default c = record {
  goes = λ tree goes. beside c.args.lens.now tree c.args.rows.now.items c.args.at c.index.result.now c.requires.place (λ folder is. c.in_default.not-Directory folder (c.index.ensures ∙ is)) goes;
  right = c.requires.right;
}

pub returns-in_default-tree-clause-goes : goal.returns-in_default-tree-clause-goes
returns-in_default-tree-clause-goes c tree goes =
    lacking c.args.lens.now tree c.args.rows.now.items c.args.at c.index.result.now c.in-Directory.folder c.requires.place (sym c.index.ensures ∙ c.in-Directory.is) c.in_default-tree.is goes

pub returns-clause-goes : goal.returns-clause-goes
returns-clause-goes c tree goes =
    let there = in_folder c.args.lens.now tree c.args.rows.now.items c.args.at c.index.result.now c.in-Directory.folder c.requires.place (sym c.index.ensures ∙ c.in-Directory.is) goes in
    let are : AreEntries (object_at c.args.lens.now (tree_at c.args.lens.now tree there.0)) c.entries_of.result.now =
    subst (λ (t : Option ObjectId). AreEntries (object_at c.args.lens.now t) c.entries_of.result.now) (sym c.in-Some.is ∙ there.1) c.entries_of.ensures in
    weaker c.add_entries.result (λ _. Expands c.args.lens.now tree c.add_entries.new.rows.items c.args.at there.0 (map entry_of c.entries_of.result.now))
    (λ _. Goes c.args.lens.now tree c.add_entries.new.rows.items (c.args.at + 1)) (Stops c.args.lens.now tree)
    (λ _ has. expanded c.args.lens.now tree c.add_entries.new.rows.items c.args.at there.0 (subst (λ (es : List Entry). Expands c.args.lens.now tree c.add_entries.new.rows.items c.args.at there.0 es) are.same has))
    (c.add_entries.ensures tree c.args.at there.0 (subst (λ (f : Option (List ℕ)). IsFront there.0 f) (sym c.in_ok-front.ensures) there.2) are there.3)
