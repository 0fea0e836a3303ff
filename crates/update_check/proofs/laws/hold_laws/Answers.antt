use Rattle.std.proofs.Common.{refl}
use Rattle.update_check.proofs.LawLemmas.{said_once, let_made, none_said, denial, by_facts}
use Rattle.update_check.proofs.laws.hold_laws.Goals as goal

pub returns-clause-exactly : goal.returns-clause-exactly
returns-clause-exactly c patterns rules a objects change = record {
  only = let_made patterns rules a objects change;
  all = none_said patterns rules a objects change;
}

pub returns-clause-denials : goal.returns-clause-denials
returns-clause-denials c patterns rules a objects change = record {
  verdict_is = λ v letter name says. (denial patterns rules a objects change says.0 v letter name says.2).verdict_is;
  letter_is = λ v letter name facts are says. (denial patterns rules a objects change facts v letter name (by_facts patterns rules a objects change facts are _ says)).letter_is;
  fallthrough = λ letter name says. (denial patterns rules a objects change says.0 _ letter name says.2).name_is refl;
}

pub returns-clause-one : goal.returns-clause-one
returns-clause-one c patterns rules a objects change = record { one = said_once patterns rules a objects change c.hold_laws.ensures.once }
