use Rattle.session_laws.proofs.ExampleLemmas.{some_are_spelled}
use Rattle.session_laws.proofs.FetchLemmas.{fetches, first_acknowledged, listed, none_common}
use Rattle.session_laws.proofs.PushLemmas.{pushes}
use Rattle.session_laws.proofs.ShortLemmas.{info, perms}
use Rattle.session_laws.proofs.laws.hold_laws.Goals as goal

pub returns-clause-pushes : goal.returns-clause-pushes
returns-clause-pushes c = pushes

pub returns-clause-fetches : goal.returns-clause-fetches
returns-clause-fetches c = fetches

pub returns-clause-acknowledged : goal.returns-clause-acknowledged
returns-clause-acknowledged c = first_acknowledged

pub returns-clause-nothing : goal.returns-clause-nothing
returns-clause-nothing c = none_common

pub returns-clause-perms : goal.returns-clause-perms
returns-clause-perms c = perms

pub returns-clause-info : goal.returns-clause-info
returns-clause-info c = info

pub returns-clause-some : goal.returns-clause-some
returns-clause-some c = some_are_spelled

pub returns-clause-listed : goal.returns-clause-listed
returns-clause-listed c = listed
