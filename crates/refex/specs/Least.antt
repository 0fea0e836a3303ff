-- The offence of a text is the leftmost one.
use Rattle.std.specs.Prelude.{◌≡◌, ℕ, ◌≤◌, true, List, ◌∷◌, Some}
use Rattle.refex.specs.Text.{Open, Placed, items}
use Rattle.refex.specs.Faults.{closes, fault_at, last_after, depth_after}
use Rattle.refex.specs.Refex.{offence}
use Rattle.refex.specs.declared.items.Last.{Last}
use Rattle.refex.specs.declared.items.Last.TheVariants as last
use Rattle.refex.specs.declared.faults.Hole.{Hole}
use Rattle.refex.specs.declared.faults.Offence.{Offence}
use Rattle.refex.specs.declared.faults.Offence.TheVariants.{Syntax, Unsupported}

abbrev pub place_of : Offence → ℕ
place_of (Syntax at) = at
place_of (Unsupported at) = at

-- one of the items is an offence: by itself and what comes before it (a bad item, a `)` that closes no group,
-- a repetition of nothing or of a repetition, or a `(?` that isn't known), or since it opens a group that
-- isn't closed
pub data HasOffence : Last → ℕ → List Placed → Offence → Type 0 where
  here : {before : Last} {depth : ℕ} {x : Placed} {xs : List Placed} {f : Offence} → fault_at before depth x 1 ≡ Some f → HasOffence before depth (x ∷ xs) f
  unclosed : {before : Last} {depth : ℕ} {x : Placed} {xs : List Placed} {f : Offence} → x.item ≡ Open true → closes xs ≡ 0 → f ≡ Syntax x.at
      → HasOffence before depth (x ∷ xs) f
  later : {before : Last} {depth : ℕ} {x : Placed} {xs : List Placed} {f : Offence} → HasOffence (last_after x.item) (depth_after depth x.item) xs f
      → HasOffence before depth (x ∷ xs) f

-- the offence that a text is refused for is at no later place than any other
abbrev pub OffencesAreLeftmost : Type 0
OffencesAreLeftmost = (hole : Hole) (text : List ℕ) (f g : Offence) → offence hole text ≡ Some f → HasOffence last.Nothing 0 (items hole text) g → place_of f ≤ place_of g
