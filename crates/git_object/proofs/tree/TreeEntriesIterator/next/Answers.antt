use Rattle.std.proofs.Common.{◌≡◌, [], sym, ◌∙◌, ap, length, rules}
use Rattle.git_object.specs.Tree.{tree_entry}
use Rattle.git_object.proofs.ReaderLemmas.{items-none, items-some}
use Rattle.git_object.proofs.TreeLemmas.{tree_entry-Shrinks}
use Rattle.git_object.proofs.tree.TreeEntriesIterator.next.Goals as goal

pub returns-in_err-entry-clause-steps : goal.returns-in_err-entry-clause-steps
returns-in_err-entry-clause-steps c =
    let none : c.args.self.now ≡ [] = sym c.self.view_is ∙ items-none tree_entry c.self.inside.bytes.now (sym c.in_err-entry.ensures) in
    rw c.from_residual.ensures (none, none)

pub returns-clause-steps : goal.returns-clause-steps
returns-clause-steps c = sym c.self.view_is ∙ items-some tree_entry tree_entry-Shrinks _ _ _ (sym c.in_ok-entry.ensures)

pub returns-clause-goes : goal.returns-clause-goes
returns-clause-goes c =
    let steps = returns-clause-steps c in
    let fewer = ap length steps in
    search rules
