use denote.Exit.{no}
use denote.Param.Send.{arg_send, param_send}
use Rattle.std.proofs.Common.{◌≡◌, ◌∷◌, [], ◌∙◌, ◌+◌, ◌++◌, ap, subst, sym, arith}
use Rattle.turn_lock.specs.Lock.{ContainsBelow, PassState}
use Rattle.turn_lock.proofs.Numbers.{ContainsBelow-append, ContainsBelow-first}
use Rattle.shared_hub.specs.declared.kept.KeptEntry.{KeptEntry}
use Rattle.shared_hub.proofs.Crosses.{hub_send}
use Rattle.hub_tests.proofs.shared_hub_tests.four_callers.Goals as goal

four_numbers : ContainsBelow (0 ∷ 1 ∷ 2 ∷ 3 ∷ []) 4
four_numbers =
    let two = ContainsBelow-append (0 ∷ []) (1 ∷ []) 1 ContainsBelow-first (0, omega arith, omega arith) in
    let three = ContainsBelow-append (0 ∷ 1 ∷ []) (2 ∷ []) 2 two (0, omega arith, omega arith) in
    ContainsBelow-append (0 ∷ 1 ∷ 2 ∷ []) (3 ∷ []) 3 three (0, omega arith, omega arith)

pub work_all-first-requires-send-H : goal.work_all-first-requires-send-H
work_all-first-requires-send-H g c κs within = param_send 1 _ (arg_send _ no _ hub_send)

pub close-requires-clause-all : goal.close-requires-clause-all
close-requires-clause-all g c =
    let first = c.in_ok-shared.ensures.first in
    let second = c.in_ok-second.ensures in
    let third = c.in_ok-third.ensures in
    let fourth = c.in_ok-fourth.ensures in
    let all = c.work_all-first.ensures in
    let start : c.work_all-first.result.0.0.numbers ≡ 0 ∷ [] = all.early.0.numbers ∙ (ap (λ (p : PassState (KeptEntry _)). p.numbers) fourth.counted ∙ (ap (λ (p : PassState (KeptEntry _)). p.numbers) third.counted ∙ (ap (λ (p : PassState (KeptEntry _)). p.numbers) second.counted ∙ ap (λ (p : PassState (KeptEntry _)). p.numbers) first))) in
    let passes : c.join-3.new.into.passes ≡ 4 = ap (λ (p : PassState (KeptEntry _)). p.passes) c.join-3.ensures.joined ∙ (ap (λ (p : PassState (KeptEntry _)). p.passes) c.join-2.ensures.joined ∙ (all.early.0.passes
    ∙ (ap (λ (p : PassState (KeptEntry _)). p.passes) fourth.counted ∙ (ap (λ (p : PassState (KeptEntry _)). p.passes + 1) third.counted ∙ (ap (λ (p : PassState (KeptEntry _)). p.passes + 1 + 1) second.counted ∙ ap (λ (p : PassState (KeptEntry _)). p.passes + 1 + 1 + 1) first))))) in
    let at_1 : c.work_all-first.result.0.1.numbers ≡ 1 ∷ [] = all.early.1.numbers ∙ (ap (λ (p : PassState (KeptEntry _)). p.numbers) second.next ∙ ap (λ (p : PassState (KeptEntry _)). p.passes ∷ []) first) in
    let at_2 : c.work_all-first.result.1.0.numbers ≡ 2 ∷ [] = all.late.0.numbers ∙ (ap (λ (p : PassState (KeptEntry _)). p.numbers) third.next ∙ (ap (λ (p : PassState (KeptEntry _)). p.passes ∷ []) second.counted ∙ ap (λ (p : PassState (KeptEntry _)). (p.passes + 1) ∷ []) first)) in
    let at_3 : c.work_all-first.result.1.1.numbers ≡ 3 ∷ [] = all.late.1.numbers ∙ (ap (λ (p : PassState (KeptEntry _)). p.numbers) fourth.next ∙ (ap (λ (p : PassState (KeptEntry _)). p.passes ∷ []) third.counted ∙ (ap (λ (p : PassState (KeptEntry _)). (p.passes + 1) ∷ []) second.counted ∙ ap (λ (p : PassState (KeptEntry _)). (p.passes + 1 + 1) ∷ []) first))) in
    let two : c.join-2.new.into.numbers ≡ 0 ∷ 1 ∷ [] = ap (λ (p : PassState (KeptEntry _)). p.numbers) c.join-2.ensures.joined ∙ (λ i. start i ++ at_1 i) in
    let late : c.join.new.into.numbers ≡ 2 ∷ 3 ∷ [] = ap (λ (p : PassState (KeptEntry _)). p.numbers) c.join.ensures.joined ∙ (λ i. at_2 i ++ at_3 i) in
    let numbers : c.join-3.new.into.numbers ≡ 0 ∷ 1 ∷ 2 ∷ 3 ∷ [] = ap (λ (p : PassState (KeptEntry _)). p.numbers) c.join-3.ensures.joined ∙ (λ i. two i ++ late i) in
    subst (λ l. ContainsBelow l c.join-3.new.into.passes) (sym numbers) (subst (λ k. ContainsBelow (0 ∷ 1 ∷ 2 ∷ 3 ∷ []) k) (sym passes) four_numbers)
