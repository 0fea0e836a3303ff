use Rattle.std.proofs.Common.{◌∙◌, ◌++◌, List, ℕ, ap, append_assoc, decimal}
use Rattle.receive_pack.proofs.TextLemmas.{on_ok_extend}
use Rattle.receive_pack.proofs.text.push_count.Goals as goal

pub returns-clause-text : goal.returns-clause-text
returns-clause-text c =
    on_ok_extend c.extend_from_slice-2.result _ _ _ _ _
    (c.in_ok-push_number.ensures.text ∙ ap (λ (l : List ℕ). l ++ decimal c.args.count) c.in_ok-extend_from_slice.ensures.items ∙ append_assoc c.args.text.now.items _ (decimal c.args.count))
    c.extend_from_slice-2.ensures.items
