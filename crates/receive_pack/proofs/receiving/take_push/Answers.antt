use Rattle.std.proofs.Common.{refl}
use Rattle.interaction_tree.specs.Interaction.{◌>>=◌}
use Rattle.std.proofs.lemmas.Result.{err_from_is_err_and}
use Rattle.receive_pack.specs.Receiving.{pushing, taking_pack, taking_push}
use Rattle.session_core.proofs.GateLemmas.{lets_in_none}
use Rattle.session_core.proofs.RulebookLemmas.{exits_first, goes_first}
use Rattle.receive_pack.proofs.receiving.take_push.Goals as goal

pub returns-in_err-commands-clause-runs : goal.returns-in_err-commands-clause-runs
unfolding taking_push
returns-in_err-commands-clause-runs g c =
    let p = err_from_is_err_and c.from_residual.result c.from_residual.ensures.1 in
    exits_first _ _ _ _ (λ book commands. taking_pack c.args.capabilities commands >>= λ pack. pushing book c.args.pin c.args.capabilities commands pack) c.take_commands.result _ _ _ c.in_err-commands.was p.1 p.2 (c.take_commands.ensures.runs _)

pub returns-in_err-pack-clause-runs : goal.returns-in_err-pack-clause-runs
unfolding taking_push
returns-in_err-pack-clause-runs g c =
    let p = err_from_is_err_and c.from_residual-in_err-pack.result c.from_residual-in_err-pack.ensures.1 in
    goes_first _ _ _ _ (λ book commands. taking_pack c.args.capabilities commands >>= λ pack. pushing book c.args.pin c.args.capabilities commands pack) c.take_commands.result _ _ c.in_ok-commands.commands _ c.in_ok-commands.was (c.take_commands.ensures.runs _)
    (exits_first _ _ _ _ (λ book pack. pushing book c.args.pin c.args.capabilities c.in_ok-commands.commands pack) c.take_pack.result _ _ _ c.in_err-pack.was p.1 p.2 (c.take_pack.ensures.runs _))

pub returns-clause-runs : goal.returns-clause-runs
unfolding taking_push
returns-clause-runs g c =
    goes_first _ _ _ _ (λ book commands. taking_pack c.args.capabilities commands >>= λ pack. pushing book c.args.pin c.args.capabilities commands pack) c.take_commands.result _ _ c.in_ok-commands.commands _ c.in_ok-commands.was (c.take_commands.ensures.runs _)
    (goes_first _ _ _ _ (λ book pack. pushing book c.args.pin c.args.capabilities c.in_ok-commands.commands pack) c.take_pack.result _ _ c.in_ok-pack.pack _ c.in_ok-pack.was (c.take_pack.ensures.runs _) c.push.ensures.runs)

pub returns-in_err-commands-clause-goes : goal.returns-in_err-commands-clause-goes
returns-in_err-commands-clause-goes g c = g.met.K.Desk.stays c.args.desk.now

pub returns-in_err-pack-clause-goes : goal.returns-in_err-pack-clause-goes
returns-in_err-pack-clause-goes g c = g.met.K.Desk.stays c.args.desk.now

pub returns-in_err-commands-clause-lets_in : goal.returns-in_err-commands-clause-lets_in
returns-in_err-commands-clause-lets_in g c = lets_in_none _ _ refl

pub returns-in_err-pack-clause-lets_in : goal.returns-in_err-pack-clause-lets_in
returns-in_err-pack-clause-lets_in g c = lets_in_none _ _ refl
