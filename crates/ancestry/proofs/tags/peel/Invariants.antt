use Rattle.std.proofs.Common.{◌≡◌, ◌-◌, length}
use Rattle.ancestry.specs.Tags.{peel, peel_within}
use Rattle.ancestry.proofs.tags.peel.Given as goal

abbrev pub invariant-loop-step : goal.invariant-loop-step
invariant-loop-step l = peel l.lens l.fn.id ≡ peel_within l.lens (length l.lens - l._step) l.id
