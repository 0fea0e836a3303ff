use Rattle.std.proofs.Common.{◌≡◌, ◌+◌, ◌<◌, length, take, sym, ◌∙◌, subst}
use Rattle.hub_history.specs.History.{replay}
use Rattle.hub.specs.Hub.{HubView, state_of}
use Rattle.hub.proofs.SinceLemmas.{conf_in_force}
use Rattle.hub.proofs.hub.Hub.has_conf_stayed.Goals as goal

pub returns : goal.returns
returns c = λ is.
    let inside = c.self.inside in
    let within : c.args.place < length inside.log = subst (λ (v : HubView). c.args.place < length v.log) (sym c.self.view_is) c.requires in
    subst (λ (v : HubView). (replay v.admin (take (c.args.place + 1) v.log)).conf ≡ (state_of v).conf) c.self.view_is
    (conf_in_force inside.since inside.conf.admin inside.log c.self.invariant.2 c.args.place (sym c.has_conf_stayed.ensures ∙ is) within)
