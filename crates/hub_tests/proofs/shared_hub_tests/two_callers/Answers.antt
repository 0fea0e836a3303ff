use denote.Exit.{no}
use denote.Param.Send.{arg_send, param_send}
use Rattle.std.proofs.Common.{◌≡◌, ◌∷◌, [], ◌∙◌, ◌+◌, ◌++◌, ap, subst, sym, arith}
use Rattle.turn_lock.specs.Lock.{ContainsBelow, PassState}
use Rattle.turn_lock.proofs.Numbers.{ContainsBelow-append, ContainsBelow-first}
use Rattle.shared_hub.specs.declared.kept.KeptEntry.{KeptEntry}
use Rattle.shared_hub.proofs.Crosses.{hub_send}
use Rattle.hub_tests.proofs.shared_hub_tests.two_callers.Goals as goal

pub in_steps-one-requires-send-H : goal.in_steps-one-requires-send-H
in_steps-one-requires-send-H g c κs within = param_send 1 _ (arg_send _ no _ hub_send)

pub close-requires-clause-all : goal.close-requires-clause-all
close-requires-clause-all g c =
    let first = c.in_ok-shared.ensures.first in
    let second = c.in_ok-second.ensures in
    let told = c.in_steps-one.ensures in
    let zero = told.one.0.numbers ∙ (ap (λ (p : PassState (KeptEntry _)). p.numbers) second.counted ∙ ap (λ (p : PassState (KeptEntry _)). p.numbers) first) in
    let next = told.other.0.numbers ∙ (ap (λ (p : PassState (KeptEntry _)). p.numbers) second.next ∙ ap (λ (p : PassState (KeptEntry _)). p.passes ∷ []) first) in
    let numbers : c.join.new.into.numbers ≡ 0 ∷ 1 ∷ [] = ap (λ (p : PassState (KeptEntry _)). p.numbers) c.join.ensures.joined ∙ (λ i. zero i ++ next i) in
    let passes : c.join.new.into.passes ≡ 2 = ap (λ (p : PassState (KeptEntry _)). p.passes) c.join.ensures.joined ∙ (told.one.0.passes ∙ (ap (λ (p : PassState (KeptEntry _)). p.passes) second.counted ∙ ap (λ (p : PassState (KeptEntry _)). p.passes + 1) first)) in
    subst (λ l. ContainsBelow l c.join.new.into.passes) (sym numbers) (subst (λ k. ContainsBelow (0 ∷ 1 ∷ []) k) (sym passes) (ContainsBelow-append (0 ∷ []) (1 ∷ []) 1 ContainsBelow-first (0, omega arith, omega arith)))
