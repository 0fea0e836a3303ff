use Rattle.receive_pack.proofs.TextLemmas.{on_ok_more}
use Rattle.receive_pack.proofs.text.push_other.Goals as goal

pub returns-clause-text : goal.returns-clause-text
returns-clause-text c = on_ok_more c.push_ref_at.result _ _ _ _ _ c.in_ok-extend_from_slice.ensures.items c.push_ref_at.ensures.text
