use Rattle.std.proofs.Common.{sym, subst, Option}
use Rattle.update_check.specs.PathVerdicts.{SaysOfTrees}
use Rattle.update_check.specs.declared.refusal.Refusal.{Refusal}
use Rattle.update_check.proofs.PathLemmas.{right_more}
use Rattle.update_check.proofs.path_verdicts.PathVerdicts.keep.Goals as goal

pub returns : goal.returns
returns c = λ check right says. right_more check c.args.self.now (record { said = c.insert.new.self }) c.args.change c.in_ok-copy_of.field-0 right (subst (λ (o : Option Refusal). SaysOfTrees check c.args.change o) (sym c.in_ok-copy_of.ensures) says) c.in_ok-insert.ensures.updates.0
