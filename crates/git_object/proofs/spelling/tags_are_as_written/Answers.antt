use Rattle.std.proofs.Common.{ap, refl}
use Rattle.std.specs.Option.{option_map}
use Rattle.git_object.specs.declared.fault.ObjFault.TheVariants.{BadTag}
use Rattle.git_object.proofs.BreakLemmas.{tag_breaks, fault_break}
use Rattle.git_object.proofs.FormLemmas.{tag_spelled, tag_again, no_fault}
use Rattle.git_object.proofs.spelling.tags_are_as_written.Goals as goal

pub returns-clause-read : goal.returns-clause-read
returns-clause-read c body good = tag_spelled body (no_fault BadTag _ good)

pub returns-clause-written : goal.returns-clause-written
returns-clause-written c id kind rest is =
    let again = tag_again id kind rest is in
    (ap (option_map BadTag) again.0, again.1)

pub returns-clause-broken : goal.returns-clause-broken
returns-clause-broken c body at e = tag_breaks body at (fault_break BadTag (λ n. refl) _ at e)
