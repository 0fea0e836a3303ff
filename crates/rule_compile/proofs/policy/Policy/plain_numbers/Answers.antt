use Rattle.std.proofs.Common.{◌∙◌}
use Rattle.rule_compile.proofs.IndexLemmas.{numbered_words}
use Rattle.rule_compile.proofs.policy.Policy.plain_numbers.Goals as goal

pub returns : goal.returns
returns c = rw (← c.self.view_is) (c.numbers_of_name.ensures ∙ c.self.invariant.2.plain c.args.repo.now ∙ numbered_words _ 1 _ c.self.invariant.0)
