use Rattle.std.proofs.Common.{◌≡◌, ◌+◌, ◌<◌, length, take, sym, ◌∙◌, subst}
use Rattle.hub_history.specs.History.{replay}
use Rattle.hub_history.specs.State.{in_force}
use Rattle.hub.specs.Hub.{HubView, state_of}
use Rattle.hub.proofs.SinceLemmas.{still_in_force}
use Rattle.hub.proofs.hub.Hub.has_stayed.Goals as goal

pub returns : goal.returns
returns c = λ is.
    let inside = c.self.inside in
    let within : c.args.place < length inside.log = subst (λ (v : HubView). c.args.place < length v.log) (sym c.self.view_is) c.requires in
    subst (λ (v : HubView). in_force (replay v.admin (take (c.args.place + 1) v.log)) c.args.name.now ≡ in_force (state_of v) c.args.name.now) c.self.view_is
    (still_in_force inside.since inside.conf.admin inside.log c.self.invariant.2 c.args.name.now c.args.place (sym c.has_stayed.ensures ∙ is) within)
