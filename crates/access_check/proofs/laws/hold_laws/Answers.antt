use Rattle.access_check.proofs.LawLemmas.{only_rules_for_it, verdicts_name_rules}
use Rattle.access_check.proofs.UserLemmas.{only_declared_cover}
use Rattle.access_check.proofs.laws.hold_laws.Goals as goal

pub returns-clause-some : goal.returns-clause-some
returns-clause-some c = only_rules_for_it

pub returns-clause-named : goal.returns-clause-named
returns-clause-named c = verdicts_name_rules

pub returns-clause-declared : goal.returns-clause-declared
returns-clause-declared c = only_declared_cover
