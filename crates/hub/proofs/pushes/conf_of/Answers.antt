use Rattle.std.proofs.Common.{List, Option, sym, ◌∙◌, ap, length}
use Rattle.hub_history.specs.State.{Conf}
use Rattle.hub.proofs.PushLemmas.{chosen_later}
use Rattle.hub.proofs.pushes.conf_of.Goals as goal

pub loop-k-preserved : goal.loop-k-preserved
loop-k-preserved c = record {
  confs = c.loop-k.invariant.confs;
  chosen =
      chosen_later c.args.repo.now c.args.commands.now c.args.outcomes.now c.loop-k.confs.items c.loop-k.k c.index-commands-k.result c.index-outcomes-k.result c.loop-k-test.true c.requires.told
      (ap (λ (fs : List (Option Conf)). length fs) c.loop-k.invariant.confs ∙ c.requires.alike) c.index-commands-k.is c.index-outcomes-k.is (sym c.puts_conf.ensures ∙ c.if-puts_conf.false)
      ∙ c.loop-k.invariant.chosen;
}
