use Rattle.std.proofs.Common.{ℕ, ◌==◌, not, ◌∙◌, ap}
use Rattle.receive_pack.proofs.ListLemmas.{none_is_all}
use Rattle.receive_pack.proofs.changes.has_no_zero.Goals as goal

pub returns : goal.returns
returns c = ap not c.contains.ensures.value ∙ none_is_all (λ (b : ℕ). b == 0) c.args.text.now
