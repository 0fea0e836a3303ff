use Rattle.std.proofs.Common.{◌<◌, get_or, sym, subst}
use Rattle.push_settling.specs.Running.{FitsCommand}
use Rattle.push_settling.proofs.RunningLemmas.{fits_at}
use Rattle.push_settling.proofs.settling.run.Goals as goal

pub run_one-requires : goal.run_one-requires
run_one-requires c =
    let fits = fits_at c.args.commands.now c.args.judged.now c.loop-i.i c.index-commands-i.result c.index-judged-i.result c.loop-i-test.true (subst (λ n. c.loop-i.i < n) (sym c.requires.alike) c.loop-i-test.true) c.requires.fit in
    subst (λ j. FitsCommand c.index-commands-i.result j) (sym c.index-judged-i.is) (subst (λ x. FitsCommand x (get_or c.args.judged.now c.loop-i.i c.index-judged-i.result)) (sym c.index-commands-i.is) fits)
