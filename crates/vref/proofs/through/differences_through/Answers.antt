use Rattle.vref.proofs.DifferenceLemmas.{sifted_sides}
use Rattle.vref.proofs.ThroughLemmas.{sides_of_none}
use Rattle.vref.proofs.through.differences_through.Goals as goal

pub returns : goal.returns
returns c first second last one other =
    sifted_sides first last c.add_differences-2.new.names c.in_ok-list.list.items
    (c.in_ok-add_differences-2.ensures first second last (c.in_ok-add_differences.ensures first first second (sides_of_none first _ c.new-names.ensures.empty c.new-names.ensures.ordered) one) other) c.in_ok-list.ensures
