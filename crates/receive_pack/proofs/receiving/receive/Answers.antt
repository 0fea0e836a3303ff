use Rattle.std.proofs.Common.{refl}
use Rattle.session_core.proofs.PartLemmas.{part_turn}
use Rattle.receive_pack.specs.Receiving.{pushed_end, receiving}
use Rattle.receive_pack.proofs.OrderLemmas.{order_receiving}
use Rattle.receive_pack.proofs.receiving.receive.Goals as goal

pub returns-clause-turn : goal.returns-clause-turn
returns-clause-turn g c = part_turn pushed_end (λ done. refl) _ _ _ _ (λ book. receiving book c.args.pin c.args.reader.now.offset) c.receive_both.result (λ book. order_receiving book c.args.pin c.args.reader.now.offset) c.receive_both.ensures.runs

pub receive_both-requires-clause-somewhere : goal.receive_both-requires-clause-somewhere
receive_both-requires-clause-somewhere g c = (_, _, c.sound.ensures.legal, c.requires.stands)
