use Rattle.rule_compile.specs.Tables.{AreNamed}
use Rattle.rule_compile.proofs.PatternLemmas.{named_copy}
use Rattle.rule_compile.proofs.patterns.PatternTable.keep_repo.Goals as goal

pub invariant_of-result : goal.invariant_of-result
invariant_of-result c =
    let new : AreNamed c.insert.new.self = named_copy _ _ _ _ _ c.self.invariant.2 c.requires c.in_ok-clone.ensures.cases c.in_ok-insert.ensures.ok in
    (c.self.invariant.0, c.self.invariant.1, new)
