use Rattle.std.proofs.Common.{◌≡◌, [], sym, ◌∙◌, ap, length, rules}
use Rattle.std.specs.Prelude.{codes}
use Rattle.git_object.specs.Commit.{parent_line}
use Rattle.git_object.proofs.ReaderLemmas.{items-none, items-some}
use Rattle.git_object.proofs.IdLemmas.{id_line-Shrinks}
use Rattle.git_object.proofs.commit.ParentsIterator.next.Goals as goal

pub returns-in_err-id-clause-steps : goal.returns-in_err-id-clause-steps
returns-in_err-id-clause-steps c =
    let none : c.args.self.now ≡ [] = sym c.self.view_is ∙ items-none parent_line c.self.inside.lines.now (sym c.in_err-id.ensures.line) in
    rw c.from_residual.ensures (none, none)

pub returns-clause-steps : goal.returns-clause-steps
returns-clause-steps c = sym c.self.view_is ∙ items-some parent_line (id_line-Shrinks (codes "parent ")) _ _ _ (sym c.in_ok-id.ensures.line)

pub returns-clause-goes : goal.returns-clause-goes
returns-clause-goes c =
    let steps = returns-clause-steps c in
    let fewer = ap length steps in
    search rules
