use Rattle.std.proofs.Common.{subst}
use Rattle.hub.specs.Desk.{IsSound}
use Rattle.shared_hub.specs.Desk.{desk_of}
use Rattle.shared_hub.proofs.TurnLemmas.{sound}
use Rattle.shared_hub.proofs.desk.SharedDeskDesk.sound.Goals as goal

pub returns : goal.returns
returns g c = subst (λ p. IsSound (desk_of p)) c.self.view_is (sound c.self.inside.pass c.self.invariant.1)
