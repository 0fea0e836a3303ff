use Rattle.policy_swap.proofs.FoundLemmas.{gathered_file, gathered_other}
use Rattle.policy_swap.proofs.found.add_file.Goals as goal
use Rattle.std.proofs.Common.{◌++◌, ◌∷◌, [], sym, subst}
use Rattle.policy_swap.specs.Found.{AreGathered}
use Rattle.policy_swap.specs.declared.rows.Row.{Row}

pub returns : goal.returns
returns c rows are =
    subst (λ (row : Row). AreGathered (rows ++ row ∷ []) c.insert.new.self) (sym c.in-File.is)
    (gathered_file rows c.args.files.now c.insert.new.self c.in-File.found c.in_ok-insert.ensures.ok are)

pub returns-in_default : goal.returns-in_default
returns-in_default c rows are = gathered_other rows c.args.files.now c.args.row c.in_default.not-File are
