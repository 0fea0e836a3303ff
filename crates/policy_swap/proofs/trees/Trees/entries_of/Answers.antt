use Rattle.std.proofs.Common.{List, sym, subst}
use Rattle.git_object.specs.declared.tree.TreeEntry.{TreeEntry}
use Rattle.ref_store.specs.Objects.{first_named}
use Rattle.policy_swap.specs.Trees.{AreEntries}
use Rattle.policy_swap.proofs.trees.Trees.entries_of.Goals as goal

pub returns : goal.returns
returns c =
    subst (λ (list : List TreeEntry). AreEntries (first_named c.args.lens.now c.args.id) list) (sym c.deref.ensures.value)
    (c.requires.right c.args.id c.in-Some.list.now (sym c.in-Some.ensures.value))
