use Rattle.conf_groups.proofs.DistinctLemmas.{none_held}
use Rattle.rule_compile.proofs.PatternLemmas.{none_named}
use Rattle.rule_compile.proofs.patterns.PatternTable.new.Goals as goal

pub invariant_of-result : goal.invariant_of-result
invariant_of-result c = rw (c.new.ensures, c.new-2.ensures, c.new-3.ensures, c.new-4.ensures) (none_held, none_named, none_named)
