use Rattle.std.specs.Bool.{⊤}
use Rattle.interaction_tree.proofs.OrderLemmas.{order_bind}
use Rattle.interaction_tree.proofs.CompositionLemmas.{turn_bind}
use Rattle.interaction_tree.proofs.laws.composition_holds.Goals as goal

pub returns-clause-turns : goal.returns-clause-turns
returns-clause-turns g c = λ extent t k input logs. turn_bind extent k t input logs

pub returns-clause-order : goal.returns-clause-order
returns-clause-order g c = λ wrote t k p. order_bind wrote t k (λ w value. ⊤) p
