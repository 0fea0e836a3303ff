use Rattle.policy_swap.proofs.FoundLemmas.{finds}
use Rattle.policy_swap.proofs.found.files_below.Goals as goal

pub returns-in-Ok-gather_files : goal.returns-in-Ok-gather_files
returns-in-Ok-gather_files c = (c.in-Ok.ensures.0, finds c.args.lens.now c.args.tree c.in-Ok.rows.items c.in-Ok.ensures.1.0 c.in-Ok-gather_files.files c.in-Ok.ensures.1.1 c.in-Ok-gather_files.ensures)
