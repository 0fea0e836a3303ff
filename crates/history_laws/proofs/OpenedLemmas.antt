-- What the rules in force just before an opening say of it.
use Rattle.std.proofs.Common.{◌≡◌, refl, sym, ◌∙◌, subst}
use Rattle.std.specs.Prelude.{Option, Some, None}
use Rattle.ref_store.specs.Refs.{Name}
use Rattle.rule_compile.specs.Flat.{Flat}
use Rattle.rule_compile.specs.Patterns.{Patterns}
use Rattle.access_check.specs.Users.{asked}
use Rattle.access_check.specs.Verdicts.{first_stage, may_create, unborn_stage}
use Rattle.access_check.specs.declared.verdicts.Verdict.{Verdict}
use Rattle.access_check.specs.declared.verdicts.Verdict.TheVariants.{Allowed, DeniedBy, Fallthru}
use Rattle.access_check.specs.declared.verdicts.Want.{Want}
use Rattle.update_check.specs.Laws.{IsAllowed}
use Rattle.hub_history.specs.declared.entry.EnterKept.{EnterKept}
use Rattle.hub_history.specs.declared.entry.EnterKept.TheVariants.{Granted, Created, Denied, NoRepo}
use Rattle.hub_history.specs.declared.entry.Event.TheVariants.{Entered}
use Rattle.hub_history.specs.History.{IsDue, history}
use Rattle.hub_history.specs.Opening.{answer_by, by_creation, by_verdict}
use Rattle.hub_history.specs.State.{Repository, wild_of}
use Rattle.hub_history.proofs.MovedLogs.{due_last}
use Rattle.history_laws.specs.Laws.{OfEachOpening, OpenedIsLet, RefusedIsNotLet, stage_of}

-- ---- answers

-- an answer other than a denial comes where the verdict allows
undenied : (v : Verdict) (allowed answer : EnterKept) → ((w : Verdict) → ¬ (answer ≡ Denied w)) → answer ≡ by_verdict v allowed → IsAllowed v × (answer ≡ allowed)
undenied (Allowed seq) allowed answer other is = ((seq, refl), is)
undenied (DeniedBy seq) allowed answer other is = absurd (other (DeniedBy seq) is)
undenied Fallthru allowed answer other is = absurd (other Fallthru is)

-- a denial comes where it doesn't, and has it
denied : (v w : Verdict) (allowed : EnterKept) → ((u : Verdict) → ¬ (allowed ≡ Denied u)) → Denied w ≡ by_verdict v allowed → (w ≡ v) × ¬ IsAllowed w
denied (Allowed seq) w allowed other is = absurd (other w (sym is))
denied (DeniedBy seq) w allowed other is = let same : w ≡ DeniedBy seq = cc in (same, λ a. let bad : DeniedBy seq ≡ Allowed a.0 = sym same ∙ a.1 in cc)
denied Fallthru w allowed other is = let same : w ≡ Fallthru = cc in (same, λ a. let bad : Fallthru ≡ Allowed a.0 = sym same ∙ a.1 in cc)

made : (v : Verdict) → Created ≡ by_creation v → IsAllowed v
made (Allowed seq) is = (seq, refl)
made (DeniedBy seq) is = absurd cc
made Fallthru is = absurd cc

unmade : (v : Verdict) → NoRepo ≡ by_creation v → ¬ IsAllowed v
unmade (Allowed seq) is a = cc
unmade (DeniedBy seq) is a = let bad : DeniedBy seq ≡ Allowed a.0 = a.1 in cc
unmade Fallthru is a = let bad : Fallthru ≡ Allowed a.0 = a.1 in cc

creation_undenied : (v u : Verdict) → ¬ (by_creation v ≡ Denied u)
creation_undenied (Allowed seq) u is = cc
creation_undenied (DeniedBy seq) u is = cc
creation_undenied Fallthru u is = cc

granted_unmade : (v : Verdict) → Granted ≡ by_creation v → ⊥
granted_unmade (Allowed seq) is = cc
granted_unmade (DeniedBy seq) is = cc
granted_unmade Fallthru is = cc

-- ---- each answer

module _ (ps : Patterns) (rules : Flat) (user repo : Name) (want : Want) where
  granted_is : (there : Option Repository) → Granted ≡ answer_by ps rules there user repo want
      → (repository : Repository) × (there ≡ Some repository) × IsAllowed (first_stage ps rules (asked ps rules (wild_of repository) repo user) want)
  granted_is (Some repository) is = (repository, refl, (undenied (first_stage ps rules (asked ps rules (wild_of repository) repo user) want) Granted Granted (λ w same. cc) is).0)
  granted_is None is = absurd (granted_unmade (may_create ps rules repo user) (undenied (unborn_stage ps rules repo user want) (by_creation (may_create ps rules repo user)) Granted (λ w same. cc) is).1)

  created_is : (there : Option Repository) → Created ≡ answer_by ps rules there user repo want
      → (there ≡ None) × IsAllowed (unborn_stage ps rules repo user want) × IsAllowed (may_create ps rules repo user)
  created_is (Some repository) is =
      let clash : Created ≡ Granted = (undenied (first_stage ps rules (asked ps rules (wild_of repository) repo user) want) Granted Created (λ w same. cc) is).1 in
      absurd cc
  created_is None is =
      let by = undenied (unborn_stage ps rules repo user want) (by_creation (may_create ps rules repo user)) Created (λ w same. cc) is in
      (refl, by.0, made (may_create ps rules repo user) by.1)

  denied_is : (v : Verdict) (there : Option Repository) → Denied v ≡ answer_by ps rules there user repo want → (v ≡ stage_of ps rules there user repo want) × ¬ IsAllowed v
  denied_is v (Some repository) is = denied (first_stage ps rules (asked ps rules (wild_of repository) repo user) want) v Granted (λ u same. cc) is
  denied_is v None is = denied (unborn_stage ps rules repo user want) v (by_creation (may_create ps rules repo user)) (creation_undenied (may_create ps rules repo user)) is

  lacking_is : (there : Option Repository) → NoRepo ≡ answer_by ps rules there user repo want
      → (there ≡ None) × IsAllowed (unborn_stage ps rules repo user want) × ¬ IsAllowed (may_create ps rules repo user)
  lacking_is (Some repository) is =
      let clash : NoRepo ≡ Granted = (undenied (first_stage ps rules (asked ps rules (wild_of repository) repo user) want) Granted NoRepo (λ w same. cc) is).1 in
      absurd cc
  lacking_is None is =
      let by = undenied (unborn_stage ps rules repo user want) (by_creation (may_create ps rules repo user)) NoRepo (λ w same. cc) is in
      (refl, by.0, unmade (may_create ps rules repo user) by.1)

-- ---- the laws

-- what an answer says by any rules holds of each opening that has it
of_each : (answer : EnterKept) (IsSuch : Patterns → Flat → Option Repository → Name → Name → Want → Type 0)
    → ((ps : Patterns) (rules : Flat) (user repo : Name) (want : Want) (there : Option Repository) → answer ≡ answer_by ps rules there user repo want → IsSuch ps rules there user repo want) → OfEachOpening answer IsSuch
of_each answer IsSuch by admin before entry user repo want legal is ps ok =
    let due : IsDue ps (history admin before) (Entered user repo want answer) = subst (IsDue ps (history admin before)) is (due_last admin before entry legal ps ok) in
    (due.1.0, due.1.1, by ps due.1.0 user repo want _ due.1.2)

pub opened_is_let : OpenedIsLet
opened_is_let = record {
  granted = of_each Granted _ granted_is;
  created = of_each Created _ created_is;
}

pub refused_is_not_let : RefusedIsNotLet
refused_is_not_let = record {
  denied = λ v. of_each (Denied v) _ (λ ps rules user repo want. denied_is ps rules user repo want v);
  lacking = of_each NoRepo _ lacking_is;
}
