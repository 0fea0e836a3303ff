use Rattle.std.proofs.Common.{◌+◌, ◌<◌, ℕ, length, take, sym, ◌∙◌, ap, subst}
use Rattle.hub_history.specs.History.{replay}
use Rattle.hub_history.specs.State.{in_force}
use Rattle.hub.specs.Hub.{state_of}
use Rattle.hub.proofs.SinceLemmas.{opened_in_force, opened_within}
use Rattle.hub.proofs.hub.Hub.stands_as_opened.Goals as goal

pub has_stayed-requires : goal.has_stayed-requires
has_stayed-requires c = subst (λ (n : ℕ). n < length c.args.self.now.log) (sym c.place.ensures) (opened_within c.args.self.now.admin c.args.self.now.log c.args.pin.now c.requires)

pub returns : goal.returns
returns c = λ is.
    let hub = c.args.self.now in
    opened_in_force hub.admin hub.log c.args.pin.now c.requires
    ∙ (λ i. in_force (replay hub.admin (take (sym c.place.ensures i + 1) hub.log)) (sym c.repo_name.ensures i))
    ∙ c.has_stayed.ensures is
    ∙ ap (in_force (state_of hub)) c.repo_name.ensures
