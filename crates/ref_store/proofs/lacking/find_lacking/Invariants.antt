use Rattle.ref_store.specs.Segments.{all_of}
use Rattle.ref_store.proofs.PackLemmas.{SoFar}
use Rattle.ref_store.proofs.lacking.find_lacking.Given as goal

abbrev pub invariant-loop-i : goal.invariant-loop-i
invariant-loop-i l = SoFar (all_of l.kept) l.pack l.fresh.items l.i
