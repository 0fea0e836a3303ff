use Rattle.std.specs.Bool.{⊤}
use Rattle.std.proofs.Common.{false}
use Rattle.interaction_tree.proofs.LimitLemmas.{order_limits, trace_limits, turn_of_part}
use Rattle.interaction_tree.proofs.laws.parts_hold.Goals as goal

pub returns-clause-turns : goal.returns-clause-turns
returns-clause-turns g c = λ extent t most input own there. turn_of_part extent t most input own there

pub returns-clause-traces : goal.returns-clause-traces
returns-clause-traces g c = λ left out t rest most read written own count behind p. trace_limits left out t rest most read written own count behind p

pub returns-clause-order : goal.returns-clause-order
returns-clause-order g c = λ most t p. order_limits false t (λ wrote a. ⊤) most p
