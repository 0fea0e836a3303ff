use Rattle.std.proofs.Common.{◌-◌, ◌^◌, [], ◌∷◌, take, Contains}
use Rattle.ancestry.proofs.ReachedLemmas.{Walking}
use Rattle.ancestry.proofs.reached.reaches.Given as goal

abbrev pub invariant-loop-id : goal.invariant-loop-id
invariant-loop-id g l = record {
  walking : Walking (g.S.Steps.next l.steps) (l.fn.root ∷ []) l.set l.next;
  unmet : ¬ Contains (take l.next l.set) l.wanted;
}

abbrev pub decreases-loop-id : goal.decreases-loop-id
decreases-loop-id g l = 2 ^ 63 - l.next
