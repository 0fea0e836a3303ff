use Rattle.std.proofs.Common.{subst, sym, ◌∙◌}
use Rattle.shared_hub.specs.Shared.{IsHubPass}
use Rattle.shared_hub.proofs.TurnLemmas.{looks_on}
use Rattle.shared_hub.proofs.desk.SharedDesk.has_stopped.Goals as goal

pub invariant_of-self : goal.invariant_of-self
invariant_of-self g c =
    let same = looks_on c.self.inside.pass c.with_turn.new.pass c.with_turn.ensures.turned in
    (c.with_turn.ensures.same_pass.lock ∙ c.self.invariant.0, subst (λ p. IsHubPass p) (sym same) c.self.invariant.1)

pub returns-clause-may : goal.returns-clause-may
returns-clause-may g c = c.with_turn.ensures.turned.related.1

pub returns-clause-same : goal.returns-clause-same
returns-clause-same g c = looks_on c.self.inside.pass c.with_turn.new.pass c.with_turn.ensures.turned ∙ c.self.view_is
