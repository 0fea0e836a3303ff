use Rattle.pktline_core.proofs.LinkLemmas.{writes_second}
use Rattle.request_head.specs.Responses.{response_head}
use Rattle.request_head.specs.declared.response.Media.TheVariants.{Text}
use Rattle.smart_http.proofs.responses.write_refusal.Goals as goal

pub returns-clause-writes : goal.returns-clause-writes
returns-clause-writes g c =
    writes_second _ _ _ (response_head c.args.status Text) c.args.text.now _ (rw c.in_ok-write_response_head.was at c.write_response_head.ensures.writes) c.write_response_head.ensures.later c.write_all.ensures.writes
