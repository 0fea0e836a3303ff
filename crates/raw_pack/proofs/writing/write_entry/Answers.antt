use Rattle.raw_pack.proofs.WritingLemmas.{hashed_second}
use Rattle.raw_pack.proofs.writing.write_entry.Goals as goal

pub returns-clause-writes : goal.returns-clause-writes
returns-clause-writes g c =
    rw (c.kind.ensures, c.body-body.ensures.body) at (hashed_second _ _ _ _ _ _ _ _ _ (rw c.in_ok-write_head.was at c.write_head.ensures.writes) c.write_head.ensures.later c.write_hashed.ensures.writes)
