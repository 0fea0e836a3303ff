use Rattle.std.proofs.Common.{ap, refl}
use Rattle.std.specs.Option.{option_map}
use Rattle.git_object.specs.declared.fault.ObjFault.TheVariants.{BadTree}
use Rattle.git_object.proofs.BreakLemmas.{tree_breaks, fault_break}
use Rattle.git_object.proofs.FormLemmas.{tree_spelled, tree_again, no_fault}
use Rattle.git_object.proofs.spelling.trees_are_as_written.Goals as goal

pub returns-clause-read : goal.returns-clause-read
returns-clause-read c body good = tree_spelled body (no_fault BadTree _ good)

pub returns-clause-written : goal.returns-clause-written
returns-clause-written c body entries is =
    let again = tree_again body entries is in
    (ap (option_map BadTree) again.0, again.1)

pub returns-clause-broken : goal.returns-clause-broken
returns-clause-broken c body at e = tree_breaks body at (fault_break BadTree (λ n. refl) _ at e)
