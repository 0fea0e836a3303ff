use Rattle.receive_pack.proofs.TextLemmas.{on_ok_extend}
use Rattle.receive_pack.proofs.text.push_denied_now.Goals as goal

pub returns-clause-text : goal.returns-clause-text
returns-clause-text c = on_ok_extend c.extend_from_slice.result _ _ _ _ _ c.in_ok-push_denied.ensures.text c.extend_from_slice.ensures.items
