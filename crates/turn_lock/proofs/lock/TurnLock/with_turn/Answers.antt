use Rattle.std.proofs.Common.{◌≡◌, ◌++◌, ◌∷◌, List, Some, append_assoc, sym, ◌∙◌, ap, subst, unwrap_or}
use mathlib.Core.List.{IsPrefix}
use Rattle.atomic_table.specs.Table.{rest}
use Rattle.turn_lock.specs.Lock.{Turned, seen}
use Rattle.turn_lock.specs.Rule.{state_of}
use Rattle.turn_lock.proofs.TurnMade.{slot_value, turned, seen_later}
use Rattle.turn_lock.proofs.lock.TurnLock.with_turn.Goals as goal

pub exchange-found-requires : goal.exchange-found-requires
exchange-found-requires g c =
    let tries = c.take.ensures.tries in
    let e = ap (λ m. m.1) tries.2 in
    (c.take.ensures.table.0 ∙ (ap (λ p. p.lock) c.pass.view_is ∙ (c.requires.of_lock ∙ sym c.self.view_is)), (Some tries.0, e ∙ ap (λ l. (0, Some tries.0) ∷ rest l) (sym e)))

pub run-answer-requires : goal.run-answer-requires
run-answer-requires g c =
    let tries = c.take.ensures.tries in
    let v = c.pass.inside.seat.me.0 in
    let knows = g.S.Step.knows c.args.step.now in
    let begins : IsPrefix knows (seen c.args.pass.now) = c.requires.knows in
    let first : knows ++ begins.0 ≡ v.knowledge.at_new.value ++ v.knowledge.since.value = begins.1 ∙ sym (ap (λ p. seen p) c.pass.view_is) in
    let held_is = ap (λ l. slot_value tries.0 l) (sym (ap (λ m. m.1) tries.2) ∙ c.exchange-found.ensures.2) ∙ ap (λ o. unwrap_or o tries.0) c.in-Some.is in (
      begins.0 ++ tries.1,
      sym (append_assoc knows begins.0 tries.1) ∙ (ap (λ l. l ++ tries.1) first ∙ (append_assoc v.knowledge.at_new.value v.knowledge.since.value tries.1 ∙ (sym tries.3 ∙ ap g.T.Kept.entries held_is))),
    )

pub returns-clause-turned : goal.returns-clause-turned
returns-clause-turned g c =
    let tries = c.take.ensures.tries in
    let found = c.exchange-found.ensures in
    let emptied = c.exchange-emptied.ensures in
    let caller = g.T.Kept.caller in
    let lock = c.pass.inside.seat.table_id in
    let v = c.pass.inside.seat.me.0 in
    let after = c.release.new.seat.me.0 in
    let relates : List g.row.T-Entry.Denot → List g.row.T-Entry.Denot → Type 0 = λ before after. g.S.Step.relates c.args.step.now before after c.run-answer.result in
    let held_is = ap (λ l. slot_value tries.0 l) (sym (ap (λ m. m.1) tries.2) ∙ found.2) ∙ ap (λ o. unwrap_or o tries.0) c.in-Some.is in
    let did = turned g.T.Kept.entries caller relates lock v c.in-Some.held c.run-answer.new.held tries.1 (ap g.T.Kept.entries (sym held_is) ∙ tries.3) tries.4 c.pass.invariant.own c.run-answer.ensures.relates
    c.exchange-emptied.new.seat.me c.release.new.seat.me
    (emptied.3 ∙ ((λ i. ((found.3 i).0, (0, Some c.run-answer.new.held) ∷ rest (found.3 i).1)) ∙ (λ i. ((tries.2 i).0, (0, Some c.run-answer.new.held) ∷ rest (tries.2 i).1))))
    c.release.ensures.releases in
    let one_lock = c.release.ensures.table.0 ∙ (emptied.0 ∙ (found.0 ∙ c.take.ensures.table.0)) in
    subst (λ p. Turned caller relates p (state_of c.release.new.seat.table_id after)) c.pass.view_is (subst (λ z. Turned caller relates (state_of lock v) (state_of z after)) (sym one_lock) did)

pub returns-clause-again : goal.returns-clause-again
returns-clause-again g c =
    let begins : IsPrefix (g.S.Step.knows c.run-answer.new.self) (seen c.args.pass.now) = subst (λ k. IsPrefix k (seen c.args.pass.now)) (sym c.run-answer.ensures.again.0) c.requires.knows in
    seen_later g.T.Kept.caller (λ before after. g.S.Step.relates c.args.step.now before after c.run-answer.result) c.args.pass.now _ (g.S.Step.knows c.run-answer.new.self) (returns-clause-turned g c) begins
