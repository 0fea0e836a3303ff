use Rattle.std.proofs.Common.{refl}
use Rattle.std.proofs.lemmas.Result.{err_from_is_err_and}
use Rattle.receive_pack.specs.Receiving.{receiving, commanding}
use Rattle.session_core.proofs.GateLemmas.{lets_in_none}
use Rattle.session_core.proofs.RulebookLemmas.{exits_first, goes_first}
use Rattle.receive_pack.proofs.receiving.receive_both.Goals as goal

pub returns-in_err-advertise_receive-clause-runs : goal.returns-in_err-advertise_receive-clause-runs
unfolding receiving
returns-in_err-advertise_receive-clause-runs g c =
    let p = err_from_is_err_and c.from_residual.result c.from_residual.ensures.1 in
    exits_first _ _ _ _ (λ book u. commanding book c.args.pin c.args.reader.now.offset) c.advertise_receive.result _ _ _ c.in_err-advertise_receive.was p.1 p.2 (c.advertise_receive.ensures.runs (g.K.Desk.view c.args.desk.now))

pub returns-clause-runs : goal.returns-clause-runs
unfolding receiving
returns-clause-runs g c =
    goes_first _ _ _ _ (λ book u. commanding book c.args.pin c.args.reader.now.offset) c.advertise_receive.result _ _ c.in_ok-advertise_receive.field-0 _ c.in_ok-advertise_receive.was (c.advertise_receive.ensures.runs (g.K.Desk.view c.args.desk.now)) c.receive_commands.ensures.runs

pub returns-in_err-advertise_receive-clause-goes : goal.returns-in_err-advertise_receive-clause-goes
returns-in_err-advertise_receive-clause-goes g c = g.met.K.Desk.stays c.args.desk.now

pub returns-in_err-advertise_receive-clause-lets_in : goal.returns-in_err-advertise_receive-clause-lets_in
returns-in_err-advertise_receive-clause-lets_in g c = lets_in_none _ _ refl
