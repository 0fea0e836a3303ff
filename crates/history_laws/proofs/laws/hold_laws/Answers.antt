use Rattle.history_laws.proofs.AtomicLemmas.{names_the_first}
use Rattle.history_laws.proofs.DeniedLemmas.{denied_is_not_let, denied_now_is_not_let, many_is_not_let, many_now_is_not_let}
use Rattle.history_laws.proofs.LetLemmas.{past_is_let}
use Rattle.history_laws.proofs.NamedLemmas.{all_are_named}
use Rattle.history_laws.proofs.OpenedLemmas.{opened_is_let, refused_is_not_let}
use Rattle.history_laws.proofs.RefusalLemmas.{refusals_are_so}
use Rattle.history_laws.proofs.laws.hold_laws.Goals as goal

pub returns-clause-opened : goal.returns-clause-opened
returns-clause-opened c = opened_is_let

pub returns-clause-refused : goal.returns-clause-refused
returns-clause-refused c = refused_is_not_let

pub returns-clause-denied : goal.returns-clause-denied
returns-clause-denied c = denied_is_not_let c.hold_laws.ensures.exactly c.hold_laws.ensures.denials

pub returns-clause-many : goal.returns-clause-many
returns-clause-many c = many_is_not_let c.hold_laws.ensures.exactly

pub returns-clause-denied_now : goal.returns-clause-denied_now
returns-clause-denied_now c = denied_now_is_not_let c.hold_laws.ensures.exactly c.hold_laws.ensures.denials

pub returns-clause-many_now : goal.returns-clause-many_now
returns-clause-many_now c = many_now_is_not_let c.hold_laws.ensures.exactly

pub returns-clause-past : goal.returns-clause-past
returns-clause-past c = past_is_let c.hold_laws.ensures.exactly

pub returns-clause-others : goal.returns-clause-others
returns-clause-others c = refusals_are_so

pub returns-clause-atomic : goal.returns-clause-atomic
returns-clause-atomic c = names_the_first c.some_patterns_are_true.ensures.0 c.some_patterns_are_true.ensures.1

pub returns-clause-named : goal.returns-clause-named
returns-clause-named c = all_are_named c.hold_laws-2.ensures.plain c.some_patterns_are_true.ensures.0 c.some_patterns_are_true.ensures.1
