use Rattle.std.proofs.Common.{◌++◌, sym, ap, ◌∙◌, subst, unwrap_or}
use Rattle.std.specs.Prelude.{◌==◌, All, Contains, ◌<◌, filter, drop, length}
use Rattle.turn_lock.proofs.RuleKept.{closes}
use Rattle.turn_lock.proofs.Knowing.{drop_front}
use Rattle.turn_lock.proofs.lock.TurnLock.close.Goals as goal

pub unreachable-requires : goal.unreachable-requires
unreachable-requires g c =
    let seat = c.pass.inside.seat in
    let v = seat.me.0 in
    let all = subst (λ p. (n : _) → n < p.passes → Contains p.numbers n) (sym c.pass.view_is) c.requires.all in
    let e = closes g.T.Kept.entries g.T.Kept.caller seat.id v _ _ _ c.close_with-closed.ensures.values.2 c.take-value.ensures.value c.pass.invariant.idle (ap (λ p. p.caller) c.pass.view_is ∙ c.requires.first) c.pass.invariant.own all in
    c.in_default.not-Some e.0 e.1

pub returns-clause-list : goal.returns-clause-list
returns-clause-list g c =
    let seat = c.pass.inside.seat in
    let v = seat.me.0 in
    let all = subst (λ p. (n : _) → n < p.passes → Contains p.numbers n) (sym c.pass.view_is) c.requires.all in
    let e = closes g.T.Kept.entries g.T.Kept.caller seat.id v _ _ _ c.close_with-closed.ensures.values.2 c.take-value.ensures.value c.pass.invariant.idle (ap (λ p. p.caller) c.pass.view_is ∙ c.requires.first) c.pass.invariant.own all in
    ap (λ o. g.T.Kept.entries (unwrap_or o e.0)) (sym c.in-Some.is ∙ e.1) ∙ (e.2 ∙ ap (λ p. p.at_new ++ p.since) c.pass.view_is)

pub returns-clause-callers : goal.returns-clause-callers
returns-clause-callers g c =
    let seat = c.pass.inside.seat in
    let v = seat.me.0 in
    let all = subst (λ p. (n : _) → n < p.passes → Contains p.numbers n) (sym c.pass.view_is) c.requires.all in
    let e = closes g.T.Kept.entries g.T.Kept.caller seat.id v _ _ _ c.close_with-closed.ensures.values.2 c.take-value.ensures.value c.pass.invariant.idle (ap (λ p. p.caller) c.pass.view_is ∙ c.requires.first) c.pass.invariant.own all in
    subst (λ p. All (λ e. g.T.Kept.caller e < p.passes) p.since) c.pass.view_is e.3

pub returns-clause-kept : goal.returns-clause-kept
returns-clause-kept g c = λ n. ap (λ l. filter (λ e. g.T.Kept.caller e == n) (drop (length c.args.pass.at_new) l)) (returns-clause-list g c) ∙ ap (λ l. filter (λ e. g.T.Kept.caller e == n) l) (drop_front c.args.pass.at_new c.args.pass.since)
