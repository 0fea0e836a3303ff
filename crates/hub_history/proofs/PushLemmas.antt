-- Outcomes of pushes.
use Rattle.std.proofs.Common.{◌≡◌, List, ℕ, [], ◌∷◌, refl, sym, ◌∙◌, ap, nat_lt, Bool, true, false, map, not, ◌||◌, length, arith, subst, T}
use Rattle.std.proofs.lemmas.List.{length-map}
use Rattle.std.specs.Prelude.{if◌then◌else◌, Option, Some, None}
use Rattle.std.specs.List.{list_any, position}
use Rattle.git_object.specs.Content.{Content}
use Rattle.git_object.specs.declared.object_id.ObjectId.{ObjectId}
use Rattle.ref_store.specs.Objects.{with_pack}
use Rattle.ref_store.specs.Refs.{Refs}
use Rattle.ref_store.specs.declared.command.Command.{Command}
use Rattle.hub_history.specs.declared.outcome.Outcome.{Outcome}
use Rattle.hub_history.specs.declared.outcome.Outcome.TheVariants.{Done, BadName, Twice, NoChange, NotAdvertised, Missing, WrongKind, Denied, ManyPaths, ConfRefused, DeniedNow, ManyPathsNow, Stale, DirFile, AtomicOther, Collided, Full}
use Rattle.hub_history.specs.Collision.{collision}
use Rattle.hub_history.specs.State.{Repository}
use Rattle.hub_history.specs.Push.{beside, beside_first, by_refs, in_order, is_done, outcomes_in, refs_after, together, unless_collided, unless_full}

pub none_alike : (o : Outcome) → is_done o ≡ false → (cs : List Command) → list_any is_done (map (λ c. o) cs) ≡ false
none_alike o is [] = refl
none_alike o is (c ∷ cs) = ap (λ b. b || list_any is_done (map (λ c. o) cs)) is ∙ none_alike o is cs

pub none_beside : (first : ℕ) (os : List Outcome) → list_any is_done (map (beside first) os) ≡ false
none_beside first [] = refl
none_beside first (Done ∷ os) = none_beside first os
none_beside first (BadName ∷ os) = none_beside first os
none_beside first (Twice ∷ os) = none_beside first os
none_beside first (NoChange ∷ os) = none_beside first os
none_beside first (NotAdvertised id ∷ os) = none_beside first os
none_beside first (Missing id ∷ os) = none_beside first os
none_beside first (WrongKind id ∷ os) = none_beside first os
none_beside first (Denied verdict letter name ∷ os) = none_beside first os
none_beside first (ManyPaths ∷ os) = none_beside first os
none_beside first (ConfRefused fault ∷ os) = none_beside first os
none_beside first (DeniedNow verdict letter name ∷ os) = none_beside first os
none_beside first (ManyPathsNow ∷ os) = none_beside first os
none_beside first (Stale id ∷ os) = none_beside first os
none_beside first (DirFile r ∷ os) = none_beside first os
none_beside first (AtomicOther i ∷ os) = none_beside first os
none_beside first (Collided id ∷ os) = none_beside first os
none_beside first (Full n ∷ os) = none_beside first os

-- where one is still done, nothing was put beside a refusal
pub done_together : (atomic : Bool) (os : List Outcome) → list_any is_done (together atomic os) ≡ true → together atomic os ≡ os
done_together false os is = refl
done_together true os is = by_position (position (λ o. not (is_done o)) os) is
  where
    by_position : (p : Option ℕ) → list_any is_done (beside_first p os) ≡ true → beside_first p os ≡ os
    by_position None is = refl
    by_position (Some first) is = absurd (subst T (sym is ∙ none_beside first os) tt)

-- where one command is done the pack has no collision, and the outcomes are those in order
pub done_in_order : (now : Repository) (pack : List Content) (cs : List Command) (atomic : Bool) (js : List (Option Outcome)) → list_any is_done (outcomes_in now pack cs atomic js) ≡ true
    → (collision now.objects pack ≡ None) × (outcomes_in now pack cs atomic js ≡ in_order now.refs cs js)
done_in_order now pack cs atomic js = by_collision (collision now.objects pack) refl
  where
    by_full : (b : Bool) → list_any is_done (if b then map (λ c. Full (length (with_pack now.objects pack))) cs else together atomic (in_order now.refs cs js)) ≡ true
        → (if b then map (λ c. Full (length (with_pack now.objects pack))) cs else together atomic (in_order now.refs cs js)) ≡ in_order now.refs cs js
    by_full true done = absurd (subst T (sym done ∙ none_alike (Full (length (with_pack now.objects pack))) refl cs) tt)
    by_full false done = done_together atomic (in_order now.refs cs js) done

    by_collision : (o : Option ObjectId) → collision now.objects pack ≡ o
        → list_any is_done (unless_collided o cs (unless_full (length (with_pack now.objects pack)) cs (together atomic (in_order now.refs cs js)))) ≡ true
        → (collision now.objects pack ≡ None) × (unless_collided o cs (unless_full (length (with_pack now.objects pack)) cs (together atomic (in_order now.refs cs js))) ≡ in_order now.refs cs js)
    by_collision (Some id) is done = absurd (subst T (sym done ∙ none_alike (Collided id) refl cs) tt)
    by_collision None is done = (is, by_full (nat_lt 4294967295 (length (with_pack now.objects pack))) done)

-- as many outcomes as commands
pub length-in_order : (refs : Refs) (cs : List Command) (js : List (Option Outcome)) → length js ≡ length cs → length (in_order refs cs js) ≡ length cs
length-in_order refs [] js is = refl
length-in_order refs (c ∷ cs) [] is = is
length-in_order refs (c ∷ cs) (j ∷ js) is = omega (arith, length-in_order (refs_after refs c (by_refs refs c j)) cs js (omega arith))

length-together : (atomic : Bool) (os : List Outcome) → length (together atomic os) ≡ length os
length-together false os = refl
length-together true os = by_position (position (λ o. not (is_done o)) os)
  where
    by_position : (p : Option ℕ) → length (beside_first p os) ≡ length os
    by_position None = refl
    by_position (Some first) = length-map os (beside first)

pub length-outcomes : (now : Repository) (pack : List Content) (cs : List Command) (atomic : Bool) (js : List (Option Outcome)) → length js ≡ length cs → length (outcomes_in now pack cs atomic js) ≡ length cs
length-outcomes now pack cs atomic js same = by_collision (collision now.objects pack)
  where
    run : List Outcome
    run = together atomic (in_order now.refs cs js)

    by_full : (b : Bool) → length (if b then map (λ c. Full (length (with_pack now.objects pack))) cs else run) ≡ length cs
    by_full true = length-map cs (λ c. Full (length (with_pack now.objects pack)))
    by_full false = length-together atomic (in_order now.refs cs js) ∙ length-in_order now.refs cs js same

    by_collision : (o : Option ObjectId) → length (unless_collided o cs (unless_full (length (with_pack now.objects pack)) cs run)) ≡ length cs
    by_collision (Some id) = length-map cs (λ c. Collided id)
    by_collision None = by_full (nat_lt 4294967295 (length (with_pack now.objects pack)))
