-- What the rules say of a change of a ref: the ref itself is asked, and then virtual refs.
use Rattle.std.specs.Prelude.{◌≡◌, ◌&&◌, ℕ, Bool, true, false, if◌then◌else◌, List, [], ◌∷◌, ◌++◌, codes, Option, None, Some}
use Rattle.std.specs.Option.{option_or}
use Rattle.git_object.specs.Content.{Content}
use Rattle.git_object.specs.declared.object_id.ObjectId.{ObjectId}
use Rattle.ref_store.specs.declared.command.Command.{Command}
use Rattle.ancestry.specs.declared.facts.Facts.{Facts}
use Rattle.vref.specs.Facts.{AreFacts}
use Rattle.vref.specs.Paths.{DifferTooMuch, IsChanged, Lists}
use Rattle.vref.specs.Root.{root_of}
use Rattle.vref.specs.Rows.{Path}
use Rattle.rule_compile.specs.Patterns.{Patterns}
use Rattle.rule_compile.specs.declared.rule.Rule.{Rule}
use Rattle.access_check.specs.Letters.{flags_of, letter_of}
use Rattle.access_check.specs.Users.{Asked}
use Rattle.access_check.specs.Verdicts.{decide, holds_vref}
use Rattle.access_check.specs.declared.letters.Letter.{Letter}
use Rattle.access_check.specs.declared.verdicts.Verdict.{Verdict}
use Rattle.access_check.specs.declared.verdicts.Verdict.TheVariants.{Allowed, DeniedBy, Fallthru}
use Rattle.access_check.specs.declared.verdicts.Vref.TheVariants.{Name, MergeCheck}
use Rattle.update_check.specs.Table.{End, First}
use Rattle.update_check.specs.declared.refusal.Refusal.{Refusal}
use Rattle.update_check.specs.declared.refusal.Refusal.TheVariants.{Denied, ManyPaths}

-- ---- a verdict

-- A ref is denied by every verdict but an allowed one.
abbrev pub by_ref : Letter → List ℕ → Verdict → Option Refusal
by_ref letter name (Allowed seq) = None
by_ref letter name (DeniedBy seq) = Some (Denied (DeniedBy seq) letter name)
by_ref letter name Fallthru = Some (Denied Fallthru letter name)

-- A virtual ref is denied by a rule alone: the fallthrough allows it.
abbrev pub by_virtual : Letter → List ℕ → Verdict → Option Refusal
by_virtual letter name (Allowed seq) = None
by_virtual letter name (DeniedBy seq) = Some (Denied (DeniedBy seq) letter name)
by_virtual letter name Fallthru = None

-- ---- names of virtual refs

-- of a ref whose change brings a merge
abbrev pub merge_check_name : List ℕ → List ℕ
merge_check_name ref = codes "VREF/MERGE-CHECK/" ++ ref

-- of a changed path
abbrev pub path_name : Path → List ℕ
path_name path = codes "VREF/NAME/" ++ path

-- ---- changed paths

-- the paths that a change changes, in the order of their bytes; or none, where the trees differ too much
abbrev pub AreChanges : List Content → ObjectId → ObjectId → Option (List Path) → Type 0
AreChanges objects old new None = DifferTooMuch objects (root_of objects old) (root_of objects new)
AreChanges objects old new (Some paths) = ¬ DifferTooMuch objects (root_of objects old) (root_of objects new) × Lists (IsChanged objects (root_of objects old) (root_of objects new)) paths

-- ---- the rows

module _ (patterns : Patterns) (rules : List Rule) (a : Asked) where
  -- the letter that a change of these facts needs
  abbrev pub letter_for : Facts → Letter
  letter_for facts = letter_of (flags_of patterns rules a.repo a.creator) facts

  -- I. The ref itself
  abbrev pub said_of_ref : Letter → List ℕ → Option Refusal
  said_of_ref letter name = by_ref letter name (decide patterns rules a letter name)

  abbrev pub said_of_virtual : Letter → List ℕ → Option Refusal
  said_of_virtual letter name = by_virtual letter name (decide patterns rules a letter name)

  -- II. The merge check: where a rule asks for it, and a merge is brought
  abbrev pub said_of_merge : Letter → Bool → List ℕ → Option Refusal
  said_of_merge letter brings_merge ref = if holds_vref patterns rules a MergeCheck && brings_merge then said_of_virtual letter (merge_check_name ref) else None

  -- III. Changed paths: where a rule asks for them, the first that is denied, and before them that they are
  -- too many
  abbrev pub said_of_paths : Letter → List Path → Option Refusal
  said_of_paths letter [] = None
  said_of_paths letter (path ∷ paths) = option_or (said_of_virtual letter (path_name path)) (said_of_paths letter paths)

  abbrev pub said_of_changes : Letter → Option (List Path) → Option Refusal
  said_of_changes letter None = Some ManyPaths
  said_of_changes letter (Some paths) = said_of_paths letter paths

  abbrev pub SaysIf : Bool → List Content → Letter → Command → Option Refusal → Type 0
  SaysIf false objects letter change said = said ≡ None
  SaysIf true objects letter change said = (changes : Option (List Path)) × AreChanges objects change.old change.new changes × (said ≡ said_of_changes letter changes)

  abbrev pub SaysOfPaths : List Content → Letter → Command → Option Refusal → Type 0
  SaysOfPaths objects letter change said = SaysIf (holds_vref patterns rules a Name) objects letter change said

  -- the rows in their order
  abbrev pub Says : List Content → Facts → Command → Option Refusal → Type 0
  Says objects facts change found =
      First (λ said. said ≡ said_of_ref (letter_for facts) change.name)
      (First (λ said. said ≡ said_of_merge (letter_for facts) facts.merge change.name)
      (First (SaysOfPaths objects (letter_for facts) change)
      End)) found

  -- what the rules say of a change, among these objects
  abbrev pub RulesSay : List Content → Command → Option Refusal → Type 0
  RulesSay objects change found = (facts : Facts) × AreFacts objects change.name change.old change.new facts × Says objects facts change found
