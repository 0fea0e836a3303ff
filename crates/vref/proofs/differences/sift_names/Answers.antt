use Rattle.vref.proofs.DifferenceLemmas.{sift_none, sift_same, sift_other}
use Rattle.vref.proofs.differences.sift_names.Goals as goal

pub loop-name-init : goal.loop-name-init
loop-name-init c = sift_none _ c.new-list.ensures.items

pub loop-name-preserved-then-are_same : goal.loop-name-preserved-then-are_same
loop-name-preserved-then-are_same c = sift_same c.loop-name.yielded c.loop-name.list.items (c.in-Some.name, c.in-Some.sides) c.loop-name.invariant (c.are_same.ensures.0 c.if-are_same.true)

pub loop-name-preserved : goal.loop-name-preserved
loop-name-preserved c =
    sift_other c.loop-name.yielded c.loop-name.list.items c.push.new.self.items (c.in-Some.name, c.in-Some.sides) c.loop-name.invariant (λ same. absurd (cc (c.are_same.ensures.1 same, c.if-are_same.false))) c.in_ok-push.ensures.items
