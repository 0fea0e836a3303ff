use Rattle.std.proofs.Common.{false}
use Rattle.receive_pack.proofs.OrderLemmas.{order_commanding, order_receiving}
use Rattle.receive_pack.proofs.laws.hold_laws.Goals as goal

pub returns : goal.returns
returns c = record { ordered = λ book opening offset. (order_receiving book opening offset, order_commanding book false opening offset) }
