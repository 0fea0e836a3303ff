use Rattle.std.proofs.Common.{◌≡◌, filter, take}
use Rattle.hub_history.specs.Push.{is_lacking}
use Rattle.hub.specs.Hub.{state_of}
use Rattle.hub.proofs.hub.Hub.lacking_of.Given as goal

abbrev pub invariant-loop-name : goal.invariant-loop-name
invariant-loop-name l = l.made ≡ filter (is_lacking (state_of l.self)) (take l.name-index l.names)
