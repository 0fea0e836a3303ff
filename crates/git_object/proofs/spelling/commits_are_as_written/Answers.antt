use Rattle.std.proofs.Common.{ap, refl}
use Rattle.std.specs.Option.{option_map}
use Rattle.git_object.specs.declared.fault.ObjFault.TheVariants.{BadCommit}
use Rattle.git_object.proofs.BreakLemmas.{commit_breaks, fault_break}
use Rattle.git_object.proofs.FormLemmas.{commit_spelled, commit_again, no_fault}
use Rattle.git_object.proofs.spelling.commits_are_as_written.Goals as goal

pub returns-clause-read : goal.returns-clause-read
returns-clause-read c body good = commit_spelled body (no_fault BadCommit _ good)

pub returns-clause-written : goal.returns-clause-written
returns-clause-written c body tree parents rest is =
    let again = commit_again body tree parents rest is in
    (ap (option_map BadCommit) again.0, again.1, again.2)

pub returns-clause-broken : goal.returns-clause-broken
returns-clause-broken c body at e = commit_breaks body at (fault_break BadCommit (λ n. refl) _ at e)
