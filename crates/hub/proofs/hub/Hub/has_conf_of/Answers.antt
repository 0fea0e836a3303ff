use Rattle.std.proofs.Common.{◌+◌, ◌<◌, ℕ, length, take, sym, ◌∙◌, ap, subst}
use Rattle.hub_history.specs.History.{replay}
use Rattle.hub_history.specs.State.{InForce}
use Rattle.hub.proofs.SinceLemmas.{opened_in_force, opened_within}
use Rattle.hub.proofs.hub.Hub.has_conf_of.Goals as goal

pub has_conf_stayed-requires : goal.has_conf_stayed-requires
has_conf_stayed-requires c = subst (λ (n : ℕ). n < length c.args.self.now.log) (sym c.place.ensures) (opened_within c.args.self.now.admin c.args.self.now.log c.args.pin.now c.requires)

pub returns : goal.returns
returns c = λ is.
    let hub = c.args.self.now in
    ap (λ (f : InForce). f.conf) (opened_in_force hub.admin hub.log c.args.pin.now c.requires)
    ∙ (λ i. (replay hub.admin (take (sym c.place.ensures i + 1) hub.log)).conf)
    ∙ c.has_conf_stayed.ensures is
