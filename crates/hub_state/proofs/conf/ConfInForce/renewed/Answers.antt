use Rattle.std.proofs.Common.{sym, subst}
use Rattle.hub_history.specs.Conf.{AreInForce}
use Rattle.hub_state.specs.Held.{conf_of}
use Rattle.hub_state.specs.declared.conf.Held.{Held}
use Rattle.hub_state.proofs.conf.ConfInForce.renewed.Goals as goal

pub invariant_of-result : goal.invariant_of-result
invariant_of-result c = λ ps ok. subst (λ (h : Held). AreInForce ps (conf_of h) h.policy) (sym c.in_ok-new.ensures.ok) (c.requires ps ok)
