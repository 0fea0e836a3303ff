use Rattle.std.proofs.Common.{◌∙◌, sym, arith}
use Rattle.conf_groups.proofs.IndexLemmas.{new_files, new_names, none_left}
use Rattle.conf_groups.proofs.files.index_files.Goals as goal

pub loop-at-init : goal.loop-at-init
loop-at-init c = (omega arith, new_files _ c.new-index.ensures ∙ sym (none_left c.args.list.now), new_names _ c.new-index.ensures)
