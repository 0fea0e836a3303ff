use Rattle.std.proofs.Common.{map}
use Rattle.git_object.specs.Tree.{entry_of}
use Rattle.vref.proofs.DifferenceLemmas.{finds_none, sifted_differences}
use Rattle.vref.proofs.differences.differing_names.Goals as goal

pub add_old_entries-requires : goal.add_old_entries-requires
add_old_entries-requires c = finds_none _ c.new-names.ensures.empty c.new-names.ensures.ordered

pub returns : goal.returns
returns c =
    sifted_differences (map entry_of c.args.old.now) (map entry_of c.args.new.now) c.add_new_entries.new.names c.in_ok-list.list.items (c.in_ok-add_new_entries.ensures (map entry_of c.args.old.now) c.in_ok-add_old_entries.ensures) c.in_ok-list.ensures
