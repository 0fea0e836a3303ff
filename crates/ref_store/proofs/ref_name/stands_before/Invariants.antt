use Rattle.std.proofs.Common.{◌≡◌, ◌-◌, ◌≤◌, ◌∷◌, [], drop}
use Rattle.ref_store.specs.RefName.{occurs}
use Rattle.ref_store.proofs.ref_name.stands_before.Given as goal

abbrev pub invariant-loop-i : goal.invariant-loop-i
invariant-loop-i l = (1 ≤ l.i) × (occurs (l.first ∷ l.second ∷ []) (drop (l.i - 1) l.text) ≡ occurs (l.first ∷ l.second ∷ []) l.text)
