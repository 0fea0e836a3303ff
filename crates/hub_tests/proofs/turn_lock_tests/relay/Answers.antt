use Rattle.std.proofs.Common.{◌≡◌, ◌∷◌, [], ◌∙◌, ◌+◌, ◌++◌, ap, subst, sym, arith}
use Rattle.turn_lock.specs.Lock.{ContainsBelow}
use Rattle.turn_lock.proofs.Numbers.{ContainsBelow-append, ContainsBelow-first}
use Rattle.hub_tests.proofs.turn_lock_tests.relay.Goals as goal

four_numbers : ContainsBelow (0 ∷ 1 ∷ 2 ∷ 3 ∷ []) 4
four_numbers =
    let two = ContainsBelow-append (0 ∷ []) (1 ∷ []) 1 ContainsBelow-first (0, omega arith, omega arith) in
    let three = ContainsBelow-append (0 ∷ 1 ∷ []) (2 ∷ []) 2 two (0, omega arith, omega arith) in
    ContainsBelow-append (0 ∷ 1 ∷ 2 ∷ []) (3 ∷ []) 3 three (0, omega arith, omega arith)

pub close-requires-clause-all : goal.close-requires-clause-all
close-requires-clause-all g c =
    let first = c.in_ok-lock.ensures in
    let second = c.in_ok-second.ensures in
    let third = c.in_ok-third.ensures in
    let fourth = c.in_ok-fourth.ensures in
    let one = c.both-first.ensures.same in
    let other = c.both-third.ensures.same in
    let start : c.both-first.result.0.numbers ≡ 0 ∷ [] = one.0.numbers ∙ (ap (λ p. p.numbers) fourth.counted ∙ (ap (λ p. p.numbers) third.counted ∙ (ap (λ p. p.numbers) second.counted ∙ ap (λ p. p.numbers) first))) in
    let passes : c.join-3.new.into.passes ≡ 4 = ap (λ p. p.passes) c.join-3.ensures.joined ∙ (ap (λ p. p.passes) c.join-2.ensures.joined ∙ (one.0.passes
    ∙ (ap (λ p. p.passes) fourth.counted ∙ (ap (λ p. p.passes + 1) third.counted ∙ (ap (λ p. p.passes + 1 + 1) second.counted ∙ ap (λ p. p.passes + 1 + 1 + 1) first))))) in
    let at_1 : c.both-first.result.1.numbers ≡ 1 ∷ [] = one.1.numbers ∙ (ap (λ p. p.numbers) second.next ∙ ap (λ p. p.passes ∷ []) first) in
    let at_2 : c.both-third.result.0.numbers ≡ 2 ∷ [] = other.0.numbers ∙ (ap (λ p. p.numbers) third.next ∙ (ap (λ p. p.passes ∷ []) second.counted ∙ ap (λ p. (p.passes + 1) ∷ []) first)) in
    let at_3 : c.both-third.result.1.numbers ≡ 3 ∷ [] = other.1.numbers ∙ (ap (λ p. p.numbers) fourth.next ∙ (ap (λ p. p.passes ∷ []) third.counted ∙ (ap (λ p. (p.passes + 1) ∷ []) second.counted ∙ ap (λ p. (p.passes + 1 + 1) ∷ []) first))) in
    let two : c.join-2.new.into.numbers ≡ 0 ∷ 1 ∷ [] = ap (λ p. p.numbers) c.join-2.ensures.joined ∙ (λ i. start i ++ at_1 i) in
    let late : c.join.new.into.numbers ≡ 2 ∷ 3 ∷ [] = ap (λ p. p.numbers) c.join.ensures.joined ∙ (λ i. at_2 i ++ at_3 i) in
    let numbers : c.join-3.new.into.numbers ≡ 0 ∷ 1 ∷ 2 ∷ 3 ∷ [] = ap (λ p. p.numbers) c.join-3.ensures.joined ∙ (λ i. two i ++ late i) in
    subst (λ l. ContainsBelow l c.join-3.new.into.passes) (sym numbers) (subst (λ k. ContainsBelow (0 ∷ 1 ∷ 2 ∷ 3 ∷ []) k) (sym passes) four_numbers)
