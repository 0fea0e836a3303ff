use Rattle.std.proofs.Common.{take}
use Rattle.std.specs.List.{AllZip}
use Rattle.vref.specs.Facts.{AreFacts}
use Rattle.vref.proofs.facts.facts_of_all.Given as goal

abbrev pub invariant-loop-k : goal.invariant-loop-k
invariant-loop-k l = AllZip (λ change facts. AreFacts l.lens change.name change.old change.new facts) (take l.k l.changes) l.all.items
