use Rattle.std.proofs.Common.{◌≡◌, ◌==◌, cond, take}
use Rattle.std.specs.List.{count_by}
use Rattle.ref_store.proofs.ref_name.has_three_pieces.Given as goal

abbrev pub invariant-loop-c : goal.invariant-loop-c
invariant-loop-c l = count_by (λ c. c == 47) (take l.c-index l.text) ≡ cond l.one 1 0
