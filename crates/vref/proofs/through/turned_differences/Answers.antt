use Rattle.std.proofs.Common.{List, ◌∙◌, ap, subst, sym, map, arith}
use Rattle.std.proofs.lemmas.List.{take_all}
use Rattle.vref.specs.Through.{turned}
use Rattle.vref.specs.Differences.{AreDifferences}
use Rattle.vref.specs.declared.differences.Difference.{Difference}
use Rattle.vref.proofs.ThroughLemmas.{turned_are}
use Rattle.vref.proofs.through.turned_differences.Goals as goal

pub returns : goal.returns
returns c old new are =
    subst (λ (list : List Difference). AreDifferences new old list) (sym (c.loop-found.invariant ∙ ap (map turned) (take_all c.loop-found.found-index c.args.list.now (omega arith))))
    (turned_are old new c.args.list.now are)
