use Rattle.std.proofs.Common.{List, ◌∙◌, subst, arith}
use Rattle.std.proofs.lemmas.List.{take_all}
use Rattle.vref.specs.declared.differences.Difference.{Difference}
use Rattle.vref.proofs.ThroughLemmas.{Changing, changing_ends, changing_more, changing_none}
use Rattle.vref.proofs.through.add_differences.Goals as goal

pub loop-found-init : goal.loop-found-init
loop-found-init c first second last has are = changing_none first second last _ has

pub loop-found-preserved : goal.loop-found-preserved
loop-found-preserved c first second last has are =
    changing_more first second last c.args.list.now c.loop-found.found-index _ c.loop-found.names c.insert.new.self c.copied-known.result c.sides_behind.result c.loop-found-test.true are (c.loop-found.invariant first second last has are)
    (c.copied-known.ensures ∙ c.get.ensures.value) c.sides_behind.ensures.old c.sides_behind.ensures.new c.in_ok-insert.ensures.updates c.in_ok-insert.ensures.ordered

pub returns : goal.returns
returns c first second last has are =
    changing_ends first second last c.args.list.now c.loop-found.names are
    (subst (λ (done : List Difference). Changing first second last done c.loop-found.names) (take_all c.loop-found.found-index c.args.list.now (omega arith)) (c.loop-found.invariant first second last has are))
