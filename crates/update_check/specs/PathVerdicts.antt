-- What is kept of what the rules said of changed paths. It serves private fields alone.
use Rattle.std.specs.Prelude.{◌≡◌, ◌&&◌, ℕ, zero, suc, nat_eq, Bool, true, if◌then◌else◌, List, Option, None, Some}
use Rattle.git_object.specs.Content.{Content}
use mathlib.Core.Bool.{beq}
use Rattle.std.specs.Map.{lookup}
use Rattle.git_object.specs.declared.object_id.ObjectId.{ObjectId}
use Rattle.ref_store.specs.Objects.{same_id}
use Rattle.ref_store.specs.declared.command.Command.{Command}
use Rattle.vref.specs.Root.{root_of}
use Rattle.rule_compile.specs.Patterns.{AreTrue, Patterns}
use Rattle.access_check.specs.declared.letters.Base.{Base}
use Rattle.access_check.specs.declared.letters.Base.TheVariants.{Write, Rewind, Create, Delete}
use Rattle.access_check.specs.declared.letters.Letter.{Letter}
use Rattle.update_check.specs.Check.{CheckView, asked_by}
use Rattle.update_check.specs.Rules.{SaysIf}
use Rattle.update_check.specs.declared.refusal.Refusal.{Refusal}
use Rattle.update_check.specs.declared.path_verdicts.TreeChange.{TreeChange}
use Rattle.update_check.specs.declared.path_verdicts.PathVerdicts.{PathVerdicts}

-- ---- the key of a change: its trees and its letter

abbrev pub old_of : TreeChange → Option ObjectId
old_of key = if key.has_old then Some key.old else None

abbrev pub new_of : TreeChange → Option ObjectId
new_of key = if key.has_new then Some key.new else None

abbrev pub base_number : Base → ℕ
base_number Write = 0
base_number Rewind = 1
base_number Create = 2
base_number Delete = 3

abbrev pub base_at : ℕ → Base
base_at zero = Write
base_at (suc zero) = Rewind
base_at (suc (suc zero)) = Create
base_at (suc (suc (suc n))) = Delete

abbrev pub letter_of : TreeChange → Letter
letter_of key = record { base = base_at key.base; merge = key.merge }

-- the key is that of a change of a ref, which needs this letter
pub record IsOfChange (objects : List Content) (letter : Letter) (change : Command) (key : TreeChange) : Type 0 where
  pub old : root_of objects change.old ≡ old_of key
  pub new : root_of objects change.new ≡ new_of key
  pub letter_is : letter_of key ≡ letter

abbrev pub same_change : TreeChange → TreeChange → Bool
same_change a b =
    same_id a.old b.old && (same_id a.new b.new && (beq a.has_old b.has_old && (beq a.has_new b.has_new && (nat_eq a.base b.base && beq a.merge b.merge))))

-- ---- what is kept

-- what is said of the changed paths of two trees, where they are asked
abbrev pub SaysOfTrees : CheckView → TreeChange → Option Refusal → Type 0
SaysOfTrees check trees said =
    (patterns : Patterns) → AreTrue patterns → (change : Command) → root_of check.objects change.old ≡ old_of trees → root_of check.objects change.new ≡ new_of trees
    → SaysIf patterns check.flat.rules (asked_by patterns check) true check.objects (letter_of trees) change said

-- each answer that is kept is what is said
abbrev pub AreRight : CheckView → PathVerdicts → Type 0
AreRight check kept = (trees : TreeChange) (said : Option Refusal) → lookup (same_change trees) kept.said.entries ≡ Some said → SaysOfTrees check trees said
