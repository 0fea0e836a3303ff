-- What reading a text gives: a pattern, or why it is none.
use Rattle.std.specs.Prelude.{◌≡◌, ℕ, ◌<◌, ◌≤◌, Bool, true, false, ◌||◌, List, map, min, Option, None, Some}
use Rattle.refex.specs.Pattern.{Pattern, Name, Then, Either, Repeat, positions}
use Rattle.refex.specs.Text.{Item, Placed, items}
use Rattle.refex.specs.Grammar.{Reads, alternation}
use Rattle.refex.specs.Faults.{first_fault}
use Rattle.refex.specs.declared.items.Last.TheVariants as last
use Rattle.refex.specs.declared.faults.Hole.{Hole}
use Rattle.refex.specs.declared.faults.Offence.{Offence}
use Rattle.refex.specs.declared.faults.Offence.TheVariants as offences
use Rattle.refex.specs.declared.faults.RefexFault.{RefexFault}
use Rattle.refex.specs.declared.faults.RefexFault.TheVariants.{Syntax, TooManyPositions, Unsupported, NoMemory}
use Rattle.refex.specs.declared.limits.TheConstants.{MAX_COUNT, MAX_POSITIONS}

abbrev pub forms : List Placed → List Item
forms xs = map (λ x. x.item) xs

-- the first offence of a text from the left
abbrev pub offence : Hole → List ℕ → Option Offence
offence hole text = first_fault last.Nothing 0 (items hole text)

-- the text has no offence, and its items are the pattern
pub record Spells (hole : Hole) (text : List ℕ) (p : Pattern) : Type 0 where
  pub sound : offence hole text ≡ None
  pub reads : Reads alternation (forms (items hole text)) p

-- the text is the pattern, which has few enough positions
pub record IsRefex (hole : Hole) (text : List ℕ) (p : Pattern) : Type 0 where
  pub spells : Spells hole text p
  pub fits : positions p ≤ MAX_POSITIONS

-- why the text is refused; no text is the cause that memory runs out
abbrev pub IsRefused : Hole → List ℕ → RefexFault → Type 0
IsRefused hole text NoMemory = ⊥
IsRefused hole text (TooManyPositions n) = (p : Pattern) × Spells hole text p × (MAX_POSITIONS < positions p) × (n ≡ min MAX_COUNT (positions p))
IsRefused hole text (Syntax at) = offence hole text ≡ Some (offences.Syntax at)
IsRefused hole text (Unsupported at) = offence hole text ≡ Some (offences.Unsupported at)

-- whether the pattern has the hole
abbrev pub has_name : Pattern → Bool
has_name Name = true
has_name (Then p q) = has_name p || has_name q
has_name (Either p q) = has_name p || has_name q
has_name (Repeat p _ _) = has_name p
has_name _ = false
