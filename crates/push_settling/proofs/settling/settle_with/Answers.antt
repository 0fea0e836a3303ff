use Rattle.std.proofs.Common.{◌++◌, sym, ◌∙◌, ap, Some}
use Rattle.ref_store.specs.Refs.{Refs}
use Rattle.hub_history.specs.Push.{in_order, repository_left_with}
use Rattle.push_settling.proofs.PushLemmas.{none_left, ok_along, ok_along_both, some_left, with_store}
use Rattle.push_settling.proofs.settling.settle_with.Goals as goal

pub returns-then-any_done-clause-next : goal.returns-then-any_done-clause-next
returns-then-any_done-clause-next c =
    let now = c.args.now.now in
    let objects = now.objects ++ c.args.fresh.objects in
    let commands = c.args.request.now.commands in
    let ran = in_order now.refs commands c.args.judged.now in
    ok_along_both c.settle_done.result _ _ _
    (λ d told next.
    next ∙ ap (λ (r : Refs). Some (with_store now (record { objects = objects; refs = r }))) c.in_ok-ran.ensures.refs
    ∙ some_left now objects commands c.args.request.now.atomic ran c.in_ok-ran.ran.outcomes c.in_ok-ran.ensures.outcomes (sym c.any_done.ensures ∙ c.if-any_done.true)
    ∙ ap (λ os. repository_left_with now objects commands os) (sym told))
    c.settle_done.ensures.outcomes c.settle_done.ensures.next
