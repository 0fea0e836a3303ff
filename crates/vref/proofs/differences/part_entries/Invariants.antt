use Rattle.std.proofs.Common.{◌+◌, ◌-◌, length}
use Rattle.vref.proofs.PartLemmas.{Parting}
use Rattle.vref.proofs.differences.part_entries.Given as goal

abbrev pub invariant-loop-olds : goal.invariant-loop-olds
invariant-loop-olds l = Parting l.old l.new l.i l.j l.olds.items l.news.items

abbrev pub decreases-loop-olds : goal.decreases-loop-olds
decreases-loop-olds l = (length l.old - l.i) + (length l.new - l.j)
