use Rattle.std.proofs.Common.{◌≡◌, ◌∷◌, [], ◌∙◌, ◌+◌, ◌++◌, ap, subst, sym, arith}
use Rattle.turn_lock.specs.Lock.{ContainsBelow}
use Rattle.turn_lock.proofs.Numbers.{ContainsBelow-append, ContainsBelow-first}
use Rattle.hub_tests.proofs.turn_lock_tests.race.Goals as goal

pub close-requires-clause-all : goal.close-requires-clause-all
close-requires-clause-all g c =
    let first = c.in_ok-lock.ensures in
    let second = c.in_ok-second.ensures in
    let same = c.both-first.ensures.same in
    let numbers : c.join.new.into.numbers ≡ 0 ∷ 1 ∷ [] = ap (λ p. p.numbers) c.join.ensures.joined ∙ (λ i. (same.0.numbers ∙ (ap (λ p. p.numbers) second.counted ∙ ap (λ p. p.numbers) first)) i ++ (same.1.numbers ∙ (ap (λ p. p.numbers) second.next ∙ ap (λ p. p.passes ∷ []) first)) i) in
    let passes : c.join.new.into.passes ≡ 2 = ap (λ p. p.passes) c.join.ensures.joined ∙ (same.0.passes ∙ (ap (λ p. p.passes) second.counted ∙ ap (λ p. p.passes + 1) first)) in
    subst (λ l. ContainsBelow l c.join.new.into.passes) (sym numbers) (subst (λ k. ContainsBelow (0 ∷ 1 ∷ []) k) (sym passes) (ContainsBelow-append (0 ∷ []) (1 ∷ []) 1 ContainsBelow-first (0, omega arith, omega arith)))
