use Rattle.std.proofs.Common.{[]}
use Rattle.git_object.specs.declared.tree.TreeEntry.{TreeEntry}
use Rattle.vref.proofs.PartLemmas.{parting_both, parting_old, parting_new}
use Rattle.vref.proofs.differences.part_entries.Goals as goal

-- an entry, where one is needed that is not read
abbrev nothing : TreeEntry
nothing = record { mode = record { ref_ptr = (0, 0); now = [] }; name = record { ref_ptr = (0, 0); now = [] }; id = record { bytes = [] } }

pub loop-olds-preserved-in-Both : goal.loop-olds-preserved-in-Both
loop-olds-preserved-in-Both c =
    parting_both c.args.old.now c.args.new.now c.loop-olds.olds.items c.loop-olds.news.items c.loop-olds.i c.loop-olds.j c.requires.old c.requires.new c.loop-olds.invariant c.in-Both.ensures.0 c.in-Both.ensures.1 c.in-Both.ensures.2 nothing

pub loop-olds-preserved-in-Old : goal.loop-olds-preserved-in-Old
loop-olds-preserved-in-Old c =
    parting_old c.args.old.now c.args.new.now c.loop-olds.olds.items c.loop-olds.news.items c.push.new.self.items c.loop-olds.i c.loop-olds.j _ c.requires.old c.loop-olds.invariant c.in-Old.ensures c.in_ok-push-in-Old.ensures.items

pub loop-olds-preserved : goal.loop-olds-preserved
loop-olds-preserved c =
    parting_new c.args.old.now c.args.new.now c.loop-olds.olds.items c.loop-olds.news.items c.push-in-New.new.self.items c.loop-olds.i c.loop-olds.j _ c.requires.new c.loop-olds.invariant c.in-New.ensures c.in_ok-push-in-New.ensures.items
