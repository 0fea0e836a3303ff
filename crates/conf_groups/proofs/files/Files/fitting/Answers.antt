use Rattle.std.proofs.Common.{sym, ◌∙◌}
use Rattle.conf_groups.proofs.IndexLemmas.{fitting_names}
use Rattle.conf_groups.proofs.files.Files.fitting.Goals as goal

pub returns : goal.returns
returns c =
    fitting_names c.args.pattern.now c.self.inside.index _ _ c.loop-file.file-iterator _ c.self.invariant.0 (sym c.self.view_is) (c.into_iter-file-iterator.ensures.into_iter_gives ∙ c.iter-file-items.ensures)
    c.in-None.ensures.steps.0 c.loop-file.invariant
