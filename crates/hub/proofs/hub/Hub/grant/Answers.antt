use Rattle.std.proofs.Common.{◌∙◌, ap}
use Rattle.hub_history.specs.declared.entry.Event.{Event}
use Rattle.hub.specs.Hub.{logged}
use Rattle.hub.proofs.PinLemmas.{pinned_granted}
use Rattle.hub.proofs.hub.Hub.grant.Goals as goal

pub returns-clause-pin : goal.returns-clause-pin
returns-clause-pin c =
    pinned_granted c.args.self.now c.args.caller c.args.user.now c.args.repo.now c.args.want c.in_ok-hosted.hosted c.in_ok-hosted.ensures.hosted c.note.new.self
    (c.in_ok-note.ensures.ok ∙ ap (λ (e : Event). logged c.args.self.now c.args.caller e) c.in_ok-event.ensures) c.in_ok-pin.pin c.in_ok-pin.ensures
