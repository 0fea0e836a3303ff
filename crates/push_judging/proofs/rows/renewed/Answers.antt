use Rattle.std.proofs.Common.{List, ◌++◌, Ok, sym, ap, ◌∙◌, subst}
use Rattle.git_object.specs.Content.{Content}
use Rattle.ref_store.specs.Store.{Store}
use Rattle.hub_history.specs.Conf.{ComesTo}
use Rattle.push_judging.proofs.rows.renewed.Goals as goal

pub renewed-requires : goal.renewed-requires
renewed-requires c = λ ps ok.
    subst (λ (objects : List Content). ComesTo ps objects c.args.command.now.new (Ok c.args.policy)) (sym (c.in_ok-objects.ensures ∙ ap (λ (s : Store). s.objects ++ c.args.pack.now) c.repo.ensures.repo)) (c.requires ps ok)
