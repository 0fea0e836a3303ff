use Rattle.std.proofs.Common.{List, Vec, Global, sym, ◌∙◌, ap}
use Rattle.std.specs.Map.{lookup}
use Rattle.std.specs.Option.{option_copied}
use Rattle.git_object.specs.declared.object_id.ObjectId.{ObjectId}
use Rattle.git_object.specs.declared.tree.TreeEntry.{TreeEntry}
use Rattle.ref_store.specs.Objects.{same_id}
use Rattle.policy_swap.proofs.TreeLemmas.{right_more}
use Rattle.policy_swap.proofs.trees.Trees.read_tree.Goals as goal

pub returns-clause-right : goal.returns-clause-right
returns-clause-right c =
    right_more c.args.lens.now c.args.self.now (record { lists = c.insert.new.self }) c.args.id c.in_ok-list.list (option_copied c.get.result) c.requires c.get.ensures (record { same = c.in_ok-list.ensures.same; once = c.in_ok-list.ensures.once })
    c.in_ok-insert.ensures.updates.0

pub returns-in_err-insert-clause-right : goal.returns-in_err-insert-clause-right
returns-in_err-insert-clause-right c id list is =
    c.requires id list (ap (λ (entries : List (ObjectId × Vec TreeEntry Global)). lookup (same_id id) entries) (sym c.in_err-insert.ensures.err) ∙ is)
