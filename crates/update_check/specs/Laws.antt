-- Laws of the definitions.
use Rattle.std.specs.Prelude.{◌≡◌, ℕ, List, IsTrue, Option, None, Some}
use Rattle.git_object.specs.Content.{Content}
use Rattle.ref_store.specs.declared.command.Command.{Command}
use Rattle.ancestry.specs.declared.facts.Facts.{Facts}
use Rattle.vref.specs.Facts.{AreFacts}
use Rattle.vref.specs.Paths.{DifferTooMuch, IsChanged}
use Rattle.vref.specs.Root.{root_of}
use Rattle.vref.specs.Rows.{Path}
use Rattle.rule_compile.specs.Patterns.{Patterns}
use Rattle.rule_compile.specs.declared.rule.Rule.{Rule}
use Rattle.access_check.specs.Users.{Asked}
use Rattle.access_check.specs.Verdicts.{decide, holds_vref}
use Rattle.access_check.specs.declared.letters.Letter.{Letter}
use Rattle.access_check.specs.declared.verdicts.Verdict.{Verdict}
use Rattle.access_check.specs.declared.verdicts.Verdict.TheVariants.{Allowed, DeniedBy, Fallthru}
use Rattle.access_check.specs.declared.verdicts.Vref.TheVariants.{Name, MergeCheck}
use Rattle.update_check.specs.Rules.{RulesSay, letter_for, merge_check_name, path_name}
use Rattle.update_check.specs.declared.refusal.Refusal.{Refusal}
use Rattle.update_check.specs.declared.refusal.Refusal.TheVariants.{Denied}

-- a rule allows
abbrev pub IsAllowed : Verdict → Type 0
IsAllowed verdict = (seq : ℕ) × (verdict ≡ Allowed seq)

-- no rule denies
abbrev pub IsNotDenied : Verdict → Type 0
IsNotDenied verdict = (seq : ℕ) → ¬ (verdict ≡ DeniedBy seq)

module _ (patterns : Patterns) (rules : List Rule) (a : Asked) (objects : List Content) (change : Command) where
  abbrev pub verdict : Facts → List ℕ → Verdict
  verdict facts name = decide patterns rules a (letter_for patterns rules a facts) name

  -- The rules let a change of these facts be made: a rule allows the ref itself; where the merge check is
  -- asked and a merge is brought, no rule denies that; and where changed paths are asked, they aren't too
  -- many, and no rule denies any of them.
  pub record LetsBeMade (facts : Facts) : Type 0 where
    pub ref : IsAllowed (verdict facts change.name)
    pub merge : IsTrue (holds_vref patterns rules a MergeCheck) → IsTrue facts.merge → IsNotDenied (verdict facts (merge_check_name change.name))
    pub few : IsTrue (holds_vref patterns rules a Name) → ¬ DifferTooMuch objects (root_of objects change.old) (root_of objects change.new)
    pub paths : IsTrue (holds_vref patterns rules a Name) → (path : Path) → IsChanged objects (root_of objects change.old) (root_of objects change.new) path → IsNotDenied (verdict facts (path_name path))

  -- Nothing is said against a change exactly where the rules let it be made.
  pub record ExactlyWhereLet : Type 0 where
    pub only : (facts : Facts) → AreFacts objects change.name change.old change.new facts → RulesSay patterns rules a objects change None → LetsBeMade facts
    pub all : (facts : Facts) → AreFacts objects change.name change.old change.new facts → LetsBeMade facts → (found : Option Refusal) → RulesSay patterns rules a objects change found → found ≡ None

  -- A denial has the verdict on the name that it tells, with the letter that the change needs. Where no rule
  -- denies, that is the ref itself.
  pub record DenialsAreVerdicts : Type 0 where
    pub verdict_is : (v : Verdict) (letter : Letter) (name : List ℕ) → RulesSay patterns rules a objects change (Some (Denied v letter name)) → v ≡ decide patterns rules a letter name
    pub letter_is : (v : Verdict) (letter : Letter) (name : List ℕ) (facts : Facts) → AreFacts objects change.name change.old change.new facts
        → RulesSay patterns rules a objects change (Some (Denied v letter name)) → letter ≡ letter_for patterns rules a facts
    pub fallthrough : (letter : Letter) (name : List ℕ) → RulesSay patterns rules a objects change (Some (Denied Fallthru letter name)) → name ≡ change.name

  -- There is one answer.
  pub record OneIsSaid : Type 0 where
    pub one : (found other : Option Refusal) → RulesSay patterns rules a objects change found → RulesSay patterns rules a objects change other → found ≡ other
