use Rattle.std.proofs.Common.{arith}
use Rattle.ancestry.specs.Runs.{is_in}
use Rattle.ancestry.proofs.RunSetLemmas.{listed_past, listed_one}
use Rattle.ancestry.proofs.run_sets.outside.Goals as goal

pub loop-place-preserved-then-past-place : goal.loop-place-preserved-then-past-place
loop-place-preserved-then-past-place c =
    listed_past (is_in c.args.runs.now) (is_in c.args.without.now) c.loop-place.places.items c.loop-place.at c.in-Some.place c.past-past.result c.loop-place.invariant c.in-Some.ensures.some c.past-past.ensures

pub loop-place-preserved : goal.loop-place-preserved
loop-place-preserved c =
    listed_one (is_in c.args.runs.now) (is_in c.args.without.now) c.loop-place.places.items c.push.new.self.items c.loop-place.at c.in-Some.place c.loop-place.invariant c.in-Some.ensures.some
    (c.past-past.ensures.none (omega (arith, c.past-past.ensures.from, c.if-past-place.false))) c.in_ok-push.ensures.items
