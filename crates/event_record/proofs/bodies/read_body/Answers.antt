use Rattle.std.proofs.Common.{arith}
use Rattle.event_record.proofs.FoundLemmas.{is_found, is_bad}
use Rattle.event_record.proofs.bodies.read_body.Goals as goal

pub returns-clause-found : goal.returns-clause-found
returns-clause-found c = is_found c.args.bytes.now c.body_at.result (λ i. omega (arith, c.type_inv.bytes i)) c.body_at.ensures

pub returns-clause-bad : goal.returns-clause-bad
returns-clause-bad c = is_bad c.args.bytes.now c.body_at.result c.body_at.ensures
