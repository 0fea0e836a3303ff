use Rattle.std.proofs.Common.{◌≡◌, refl, ap, ◌∙◌}
use Rattle.std.specs.Ordering.{nat_cmp}
use Rattle.std.specs.Iterator.Adapters.{chain_first, chain_second, chain_first_done, chain_second_done}
use Rattle.std.specs.Slice.Iter.{iter_rest}
use Rattle.std.proofs.lemmas.Iterator.{YieldsList-from_slice}
use Rattle.std.proofs.lemmas.Iterator.Consumers.{YieldsList-from_chain}
use Rattle.std.proofs.lemmas.Iterator.Search.{cmp_from_yields_List}
use Rattle.vref.proofs.walk.compare_items.Goals as goal

pub returns : goal.returns
returns c =
    let one = c.chain-one_key.ensures in
    let two = c.chain-other_key.ensures in
    cmp_from_yields_List (λ x y. y ≡ x) _ nat_cmp _ c.cmp.ensures.ran
    (YieldsList-from_chain
    (YieldsList-from_slice _ (ap iter_rest one.first ∙ c.iter.ensures.rest))
    (YieldsList-from_slice _ (ap iter_rest one.second ∙ c.iter-2.ensures.rest ∙ c.tail_of.ensures)) one.first_done one.second_done)
    (λ it e. YieldsList-from_chain
    (YieldsList-from_slice _ (ap (λ s. iter_rest (chain_first s)) e ∙ ap iter_rest two.first ∙ c.iter-3.ensures.rest))
    (YieldsList-from_slice _ (ap (λ s. iter_rest (chain_second s)) e ∙ ap iter_rest two.second ∙ c.iter-4.ensures.rest ∙ c.tail_of-2.ensures))
    (ap chain_first_done e ∙ two.first_done) (ap chain_second_done e ∙ two.second_done))
    (λ x y. refl)
