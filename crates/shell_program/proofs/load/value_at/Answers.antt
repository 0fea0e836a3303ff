use Rattle.std.proofs.Common.{◌≡◌, ◌∙◌, List, ℕ, sym, ap}
use Rattle.git_object.specs.ObjectId.{id_from}
use Rattle.ref_store.specs.Refs.{zero_id}
use Rattle.std.specs.Option.{option_copied}
use Rattle.shell_program.proofs.LoadLemmas.{value_nowhere}
use Rattle.shell_program.proofs.load.value_at.Goals as goal

pub returns : goal.returns
returns c = let zero : c.zero.result ≡ zero_id = ap (λ (b : List ℕ). id_from b) c.zero.ensures in
    zero ∙ value_nowhere c.args.hub.now c.args.visit.now c.in_ok-name.name c.requires c.in_ok-name.ensures (sym (ap option_copied c.in-None.is) ∙ c.repo.ensures)
