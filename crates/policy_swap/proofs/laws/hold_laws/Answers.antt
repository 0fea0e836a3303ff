use Rattle.std.proofs.Common.{ap}
use Rattle.rule_compile.specs.Flat.{after_splicing}
use Rattle.policy_swap.proofs.LawLemmas.{below_conf, files_once, one_answer, spliced_agrees}
use Rattle.std.proofs.Common.{refl}
use Rattle.policy_swap.proofs.laws.hold_laws.Goals as goal

pub returns-clause-names : goal.returns-clause-names
returns-clause-names c objects commit name = below_conf objects commit name

pub returns-clause-once : goal.returns-clause-once
returns-clause-once c objects tree one other a b = files_once objects tree one other a b

pub returns-clause-faults : goal.returns-clause-faults
returns-clause-faults c objects tree files e few are tells place patterns = ap (after_splicing patterns) (spliced_agrees objects tree files few are e.kind e refl tells place)

pub returns-clause-one : goal.returns-clause-one
returns-clause-one c objects tree one other a b is1 is2 = one_answer objects tree one other a b is1 is2
