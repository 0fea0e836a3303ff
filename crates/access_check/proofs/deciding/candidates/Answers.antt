use Rattle.std.proofs.Common.{List, sym, subst}
use Rattle.rule_compile.specs.declared.rule.Rule.{Rule}
use Rattle.access_check.specs.Questions.{AllLead}
use Rattle.access_check.proofs.RuleLemmas.{all_lead}
use Rattle.access_check.proofs.deciding.candidates.Goals as goal

pub returns-clause-numbers : goal.returns-clause-numbers
returns-clause-numbers c = subst (λ (some : List Rule). AllLead c.args.policy.now.rules some) (sym c.rules_for.ensures) (all_lead c.args.policy.now.rules c.rules-rules.ensures.numbered c.args.repo.now)
