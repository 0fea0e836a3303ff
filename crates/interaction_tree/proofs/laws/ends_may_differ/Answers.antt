use Rattle.std.specs.Bool.{⊤}
use Rattle.std.proofs.Common.{false}
use Rattle.interaction_tree.proofs.OtherEnds.{both_as, order_as, runs_as, turn_ends_as}
use Rattle.interaction_tree.proofs.laws.ends_may_differ.Goals as goal

pub returns-clause-turns : goal.returns-clause-turns
returns-clause-turns g c = λ end_as extent t input logs. turn_ends_as end_as extent t input logs

pub returns-clause-runs : goal.returns-clause-runs
returns-clause-runs g c = λ end_as link link' desk desk' t out p. runs_as end_as link link' desk desk' t out p

pub returns-clause-order : goal.returns-clause-order
returns-clause-order g c = λ end_as t p. order_as end_as false t (λ wrote a. ⊤) p

pub returns-clause-both : goal.returns-clause-both
returns-clause-both g c = λ end_as t k. both_as end_as t k
