use Rattle.std.proofs.Common.{◌≡◌, take, map}
use Rattle.push_settling.proofs.settling.alike.Given as goal

abbrev pub invariant-loop : goal.invariant-loop
invariant-loop l = l.list ≡ map (λ c. l.outcome) (take l.index l.commands)
