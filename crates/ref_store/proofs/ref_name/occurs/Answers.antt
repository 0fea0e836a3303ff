use Rattle.std.proofs.Common.{sym, ◌∙◌}
use Rattle.ref_store.proofs.ListLemmas.{no_first}
use Rattle.ref_store.proofs.ref_name.occurs.Goals as goal

pub returns-else-contains : goal.returns-else-contains
returns-else-contains c = c.if-contains.false ∙ no_first c.args.first c.args.second c.args.text.now (sym c.contains.ensures.value ∙ c.if-contains.false)
