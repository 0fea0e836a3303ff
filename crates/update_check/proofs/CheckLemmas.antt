-- Steps of checking a change.
use Rattle.std.proofs.Common.{◌≡◌, ◌<◌, ◌+◌, ℕ, zero, suc, Bool, true, false, ◌&&◌, List, [], ◌∷◌, length, drop, Option, Some, None, refl, sym, ◌∙◌, ap, arith}
use Rattle.std.specs.Prelude.{if◌then◌else◌, slice_index_or}
use Rattle.std.specs.Option.{option_or}
use Rattle.std.specs.Prelude.{Result, Ok, Err, IfOk}
use Rattle.git_object.specs.Content.{Content}
use Rattle.ref_store.specs.declared.command.Command.{Command}
use Rattle.rule_compile.specs.Patterns.{Patterns}
use Rattle.rule_compile.specs.declared.rule.Rule.{Rule}
use Rattle.access_check.specs.Users.{Asked}
use Rattle.access_check.specs.declared.letters.Letter.{Letter}
use Rattle.vref.specs.Rows.{Path}
use Rattle.update_check.specs.Rules.{AreChanges, SaysIf, path_name, said_of_changes, said_of_paths, said_of_virtual}
use Rattle.update_check.specs.Table.{Counts, End, First, Passes}
use Rattle.update_check.specs.declared.refusal.Refusal.{Refusal}

pub asked_merge : (holds merge : Bool) (said found : Option Refusal) → holds ≡ true → merge ≡ true → found ≡ said → found ≡ (if holds && merge then said else None)
asked_merge true true said found h m is = is
asked_merge true false said found h m is = absurd cc
asked_merge false merge said found h m is = absurd cc

module _ (ps : Patterns) (rules : List Rule) (a : Asked) (letter : Letter) where
  abbrev said_from : List Path → Option Refusal
  said_from paths = said_of_paths ps rules a letter paths

  -- the next path, and those behind it
  next : (paths : List Path) (place : ℕ) (d : Path) → place < length paths → drop place paths ≡ slice_index_or paths place d ∷ drop (suc place) paths
  next [] place d within = absurd (omega (arith, within))
  next (p ∷ paths) zero d within = refl
  next (p ∷ paths) (suc place) d within = next paths place d (omega (arith, within))

  said_here : (paths : List Path) (place : ℕ) (d : Path) → place < length paths
      → said_from (drop place paths) ≡ option_or (said_of_virtual ps rules a letter (path_name (slice_index_or paths place d))) (said_from (drop (suc place) paths))
  said_here paths place d within = ap said_from (next paths place d within)

  plus_one : (n : ℕ) → suc n ≡ n + 1
  plus_one n = omega arith

  -- a path of which nothing is said is passed over
  pub pass_over : (paths : List Path) (place : ℕ) (d : Path) → place < length paths → said_of_virtual ps rules a letter (path_name (slice_index_or paths place d)) ≡ None
      → said_from paths ≡ said_from (drop place paths) → said_from paths ≡ said_from (drop (place + 1) paths)
  pass_over paths place d within none so =
      so ∙ said_here paths place d within ∙ ap (λ (o : Option Refusal). option_or o (said_from (drop (suc place) paths))) none
      ∙ ap (λ (n : ℕ). said_from (drop n paths)) (plus_one place)

  -- the first of which something is said counts
  pub stop_at : (paths : List Path) (place : ℕ) (d : Path) (refusal : Refusal) → place < length paths
      → Some refusal ≡ said_of_virtual ps rules a letter (path_name (slice_index_or paths place d)) → said_from paths ≡ said_from (drop place paths) → Some refusal ≡ said_from paths
  stop_at paths place d refusal within said so =
      ap (λ (o : Option Refusal). option_or o (said_from (drop (suc place) paths))) said ∙ sym (said_here paths place d within) ∙ sym so

  none_left : (paths : List Path) → said_from (drop (length paths) paths) ≡ None
  none_left [] = refl
  none_left (p ∷ paths) = none_left paths

  -- behind the last nothing is left to be said
  pub run_out : (paths : List Path) → said_from paths ≡ said_from (drop (length paths) paths) → None ≡ said_from paths
  run_out paths so = sym (so ∙ none_left paths)

  -- what is said of the changed paths where a rule asks for them
  pub says_asked : (objects : List Content) (change : Command) (changes : Option (List Path)) → AreChanges objects change.old change.new changes
      → (b : Bool) → b ≡ true → (said : Option Refusal) → said ≡ said_of_changes ps rules a letter changes → SaysIf ps rules a b objects letter change said
  says_asked objects change changes are true holds said is = (changes, are, is)
  says_asked objects change changes are false holds said is = absurd cc

-- the last row of a table
pub last : {Row : Option Refusal → Type 0} → (found : Option Refusal) → Row found → First Row End found
last None row = Passes None row refl
last (Some refusal) row = Counts refusal row

pub if_ok : {X E : Type 0} {P Q : X → Type 0} → (r : Result X E) → IfOk r P → ((x : X) → P x → Q x) → IfOk r Q
if_ok (Ok x) p f = f x p
if_ok (Err e) p f = tt
