-- How a text is written: its items one behind another, a hole at its first place, and perhaps a `^` in front.
use Rattle.std.specs.Prelude.{◌≡◌, ◌↔◌, ◌⊎◌, ℕ, ◌==◌, Bool, true, false, List, [], ◌∷◌, ◌++◌, Option, None, Some, codes}
use Rattle.std.specs.List.{list_any}
use Rattle.refex.specs.Pattern.{Pattern, Bytes, End, Name}
use Rattle.refex.specs.Text.{Item, Atom, Open, Close, Bar, Repetition, range, every_other, is_alphanumeric, kind, begins_with}
use Rattle.refex.specs.Counts.{IsCount}
use Rattle.refex.specs.Classes.{IsClass}
use Rattle.refex.specs.Grammar.{Reads, alternation}
use Rattle.refex.specs.Refex.{Spells}
use Rattle.refex.specs.declared.faults.Hole.{Hole}
use Rattle.refex.specs.declared.faults.Hole.TheVariants as holes

-- bytes that don't stand for themselves
abbrev pub is_special : ℕ → Bool
is_special b = list_any (λ c. b == c) (92 ∷ codes ".[$()|*+?{^")

-- the item is written like this, before these bytes; no `?` follows a plain `(`
pub data IsItem (rest : List ℕ) : Item → List ℕ → Type 0 where
  itself : {b : ℕ} → is_special b ≡ false → IsItem rest (Atom (Bytes (range b b))) (b ∷ [])
  escaped : {b : ℕ} → is_alphanumeric b ≡ false → IsItem rest (Atom (Bytes (range b b))) (92 ∷ b ∷ [])
  kind_of : {b : ℕ} {f : ℕ → Bool} → kind b ≡ Some f → IsItem rest (Atom (Bytes f)) (92 ∷ b ∷ [])
  dot : IsItem rest (Atom (Bytes (every_other (range 10 10)))) (codes ".")
  a_class : {set : ℕ → Bool} {word : List ℕ} → IsClass set word → IsItem rest (Atom (Bytes set)) word
  end : IsItem rest (Atom End) (codes "$")
  open_group : begins_with 63 rest ≡ false → IsItem rest (Open true) (codes "(")
  open_marked : IsItem rest (Open true) (codes "(?:")
  close_group : IsItem rest Close (codes ")")
  bar : IsItem rest Bar (codes "|")
  star : IsItem rest (Repetition 0 None false) (codes "*")
  plus : IsItem rest (Repetition 1 None true) (codes "+")
  optional : IsItem rest (Repetition 0 (Some 1) true) (codes "?")
  counted : {least : ℕ} {most : Option ℕ} {word : List ℕ} → IsCount least most word → IsItem rest (Repetition least most false) (codes "{" ++ word)

-- the hole is spelled in front
abbrev pub HoleAt : Hole → List ℕ → Type 0
HoleAt holes.Nothing bytes = ⊥
HoleAt holes.User bytes = (behind : List ℕ) × (bytes ≡ codes "/USER/" ++ behind)
HoleAt holes.Creator bytes = (behind : List ℕ) × (bytes ≡ codes "CREATOR" ++ behind)

-- one item after another; the hole is at the first place where it is spelled, and at no later one
pub data AreItems : Hole → List Item → List ℕ → Type 0 where
  none : {hole : Hole} → AreItems hole [] []
  more : {hole : Hole} {x : Item} {xs : List Item} {word rest : List ℕ} → (HoleAt hole (word ++ rest) → ⊥) → IsItem rest x word → AreItems hole xs rest
      → AreItems hole (x ∷ xs) (word ++ rest)
  user : {xs : List Item} {rest : List ℕ} → AreItems holes.Nothing xs rest
      → AreItems holes.User (Atom (Bytes (range 47 47)) ∷ Atom Name ∷ Atom (Bytes (range 47 47)) ∷ xs) (codes "/USER/" ++ rest)
  creator : {xs : List Item} {rest : List ℕ} → AreItems holes.Nothing xs rest → AreItems holes.Creator (Atom Name ∷ xs) (codes "CREATOR" ++ rest)

-- the text is written as this pattern; a `^` in front means nothing
abbrev pub IsWritten : Hole → List ℕ → Pattern → Type 0
IsWritten hole text p = (xs : List Item) × (AreItems hole xs text ⊎ ((rest : List ℕ) × (text ≡ codes "^" ++ rest) × AreItems hole xs rest)) × Reads alternation xs p

-- a text spells a pattern exactly where it is written as that pattern
abbrev pub PatternsAreRead : Type 0
PatternsAreRead = (hole : Hole) (text : List ℕ) (p : Pattern) → Spells hole text p ↔ IsWritten hole text p
