use Rattle.std.proofs.Common.{◌≡◌, take}
use Rattle.wild_perms.proofs.wild.Wild.roles.Given as goal

abbrev pub invariant-loop-entry : goal.invariant-loop-entry
invariant-loop-entry l = l.roles ≡ take l.entry-index l.entry-items
