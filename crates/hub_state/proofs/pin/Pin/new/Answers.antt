use Rattle.hub_state.proofs.pin.Pin.new.Goals as goal

pub invariant_of-result : goal.invariant_of-result
invariant_of-result c = c.requires
