use Rattle.std.proofs.Common.{ℕ, ◌+◌, List, ◌++◌, length, subst}
use Rattle.std.proofs.lemmas.Result.{err_from_is_err_and}
use Rattle.pktline_core.specs.Links.{Writes}
use Rattle.pktline_core.specs.Packets.{spelling, four_digits}
use Rattle.pktline_core.proofs.LinkLemmas.{writes_first, writes_second}
use Rattle.pktline_core.proofs.writing.write_pkt.Goals as goal

pub returns-in_err-write_all-clause-writes : goal.returns-in_err-write_all-clause-writes
unfolding spelling
returns-in_err-write_all-clause-writes g c =
    let p = err_from_is_err_and c.from_residual.result c.from_residual.ensures.1 in
    let front = writes_first _ _ (four_digits (length c.args.payload.now + 4)) c.args.payload.now _ (rw (c.length_digits-digits.ensures, c.in_err-write_all.was) at c.write_all.ensures.writes) in
    rw (p.1, p.2) front

pub returns-clause-writes : goal.returns-clause-writes
unfolding spelling
returns-clause-writes g c =
    writes_second _ _ _ (four_digits (length c.args.payload.now + 4)) c.args.payload.now _ (rw (c.length_digits-digits.ensures, c.in_ok-write_all.was) at c.write_all.ensures.writes) c.write_all.ensures.later c.write_all-2.ensures.writes

pub returns-then-payload-clause-writes : goal.returns-then-payload-clause-writes
unfolding spelling
returns-then-payload-clause-writes g c =
    subst (λ (digits : List ℕ). Writes (g.S.Endpoint.state c.args.sink.now) (g.S.Endpoint.state c.write_together.new.sink) (digits ++ c.args.payload.now) c.write_together.result) c.length_digits-digits.ensures c.write_together.ensures.writes
