use Rattle.std.proofs.Common.{arith}
use Rattle.event_record.proofs.FieldLaws.{repo_short}
use Rattle.event_record.proofs.writing.put_repo.Goals as goal

pub put_text-requires : goal.put_text-requires
put_text-requires c = let short = repo_short c.bytes.result.now c.bytes.ensures.rule in omega (arith, short)
