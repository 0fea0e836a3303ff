use Rattle.std.proofs.Common.{ap, ◌∙◌}
use Rattle.turn_lock.specs.Lock.{first_pass}
use Rattle.shared_hub.specs.Kept.{KeptState, listed}
use Rattle.shared_hub.proofs.PassLemmas.{first_knows, first_of_hub}
use Rattle.shared_hub.proofs.shared.SharedHub.new.Goals as goal

pub returns-clause-pass : goal.returns-clause-pass
returns-clause-pass g c =
    let is = c.in_ok-lock.ensures ∙ ap (λ (k : KeptState _). first_pass c.in_ok-lock.lock (listed k.first (g.H.EventHub.view k.hub))) c.new.ensures in
    first_of_hub c.in_ok-lock.lock c.args.hub (g.H.EventHub.view c.args.hub) c.in_ok-lock.pass c.sound.ensures.named c.sound.ensures.legal is

pub returns-clause-desk : goal.returns-clause-desk
returns-clause-desk g c =
    let is = c.in_ok-lock.ensures ∙ ap (λ (k : KeptState _). first_pass c.in_ok-lock.lock (listed k.first (g.H.EventHub.view k.hub))) c.new.ensures in
    first_knows c.in_ok-lock.lock c.args.hub (g.H.EventHub.view c.args.hub) c.in_ok-lock.pass is
