use Rattle.std.proofs.Common.{Option, subst}
use Rattle.git_object.specs.declared.object_id.ObjectId.{ObjectId}
use Rattle.policy_swap.specs.Conf.{TellsOfConf}
use Rattle.policy_swap.proofs.ConfLemmas.{tells_of_conf}
use Rattle.policy_swap.proofs.conf.conf_files.Goals as goal

pub returns-in-Ok : goal.returns-in-Ok
returns-in-Ok c =
    subst (λ (tree : Option ObjectId). TellsOfConf c.args.lens.now tree c.conf_of.result) c.conf_tree.ensures
    (tells_of_conf c.args.lens.now c.conf_tree.result c.in-Ok.files c.in-Ok.ensures c.conf_of.result c.conf_of.ensures)
