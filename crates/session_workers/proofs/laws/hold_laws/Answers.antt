use Rattle.session_workers.proofs.Appended.{served_appended}
use Rattle.session_workers.proofs.laws.hold_laws.Goals as goal

pub returns : goal.returns
returns g c = record { stays = λ protocol. served_appended (g.P.Protocol.meaning protocol) }
