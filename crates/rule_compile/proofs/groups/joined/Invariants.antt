use Rattle.std.proofs.Common.{◌≡◌, ◌++◌, drop}
use Rattle.rule_compile.proofs.groups.joined.Given as goal

abbrev pub invariant-loop-text : goal.invariant-loop-text
invariant-loop-text l = l.fn.texts ++ l.more ≡ l.all ++ drop l.text-index l.more
