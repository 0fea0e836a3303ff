use Rattle.session_core.proofs.RulebookLemmas.{memory_by}
use Rattle.smart_http.proofs.PartLemmas.{part_of}
use Rattle.smart_http.proofs.calls.take_body.Goals as goal

pub returns-in_default-clause-runs : goal.returns-in_default-clause-runs
returns-in_default-clause-runs g c = part_of _ _ _ _ _ _ (memory_by _ _ _)
