-- How classes are spelled, and that they are read as what they stand for.
use Rattle.std.specs.Prelude.{◌≡◌, ◌↔◌, ℕ, ◌≤◌, ◌==◌, Bool, true, false, ◌&&◌, not, List, [], ◌∷◌, ◌++◌, length, Some}
use Rattle.refex.specs.Pattern.{Bytes}
use Rattle.refex.specs.Text.{Atom, Member, Byte, Kind, range, either_of, every_other, is_alphanumeric, kind, begins_with, bytes_of, item}

-- which bytes stand for themselves in a class: in first place any but the backslash; behind it any but the
-- backslash, `]` and the dash
abbrev pub is_plain : Bool → ℕ → Bool
is_plain true b = not (b == 92)
is_plain false b = not (b == 92) && not (b == 93) && not (b == 45)

-- the same of the byte that ends a range
abbrev pub is_plain_end : ℕ → Bool
is_plain_end b = not (b == 92) && not (b == 93)

-- the member is written like this, before the rest of the class; no `:` follows a plain `[`
pub data IsMember (plain : ℕ → Bool) (rest : List ℕ) : Member → List ℕ → Type 0 where
  itself : {b : ℕ} → plain b ≡ true → (b == 91) && begins_with 58 rest ≡ false → IsMember plain rest (Byte b) (b ∷ [])
  escaped : {b : ℕ} → is_alphanumeric b ≡ false → IsMember plain rest (Byte b) (92 ∷ b ∷ [])
  kind_of : {b : ℕ} {f : ℕ → Bool} → kind b ≡ Some f → IsMember plain rest (Kind f) (92 ∷ b ∷ [])

-- a member or a range, by the bytes that it stands for
pub data IsEntry (first : Bool) (rest : List ℕ) : (ℕ → Bool) → List ℕ → Type 0 where
  alone : {m : Member} {word : List ℕ} → IsMember (is_plain first) rest m word → IsEntry first rest (bytes_of m) word
  from_to : {a b : ℕ} {word more : List ℕ} → IsMember (is_plain first) (45 ∷ more ++ rest) (Byte a) word → IsMember is_plain_end rest (Byte b) more → a ≤ b
      → IsEntry first rest (range a b) (word ++ 45 ∷ more)

-- one entry after another, one at least where the first place is still free, and perhaps a dash in last place
pub data AreEntries : Bool → List (ℕ → Bool) → List ℕ → Type 0 where
  none : AreEntries false [] []
  dash : AreEntries false (range 45 45 ∷ []) (45 ∷ [])
  more : {first : Bool} {set : ℕ → Bool} {sets : List (ℕ → Bool)} {word rest : List ℕ} → IsEntry first rest set word → AreEntries false sets rest
      → AreEntries first (set ∷ sets) (word ++ rest)

-- a byte of one of the sets
abbrev pub any_of : List (ℕ → Bool) → ℕ → Bool
any_of [] = λ _. false
any_of (f ∷ fs) = either_of f (any_of fs)

-- a class of these bytes: those of its entries or, behind `[^`, every other byte
pub data IsClass : (ℕ → Bool) → List ℕ → Type 0 where
  these : {sets : List (ℕ → Bool)} {word : List ℕ} → AreEntries true sets word → begins_with 94 word ≡ false → IsClass (any_of sets) (91 ∷ word ++ 93 ∷ [])
  others : {sets : List (ℕ → Bool)} {word : List ℕ} → AreEntries true sets word → IsClass (every_other (any_of sets)) (91 ∷ 94 ∷ word ++ 93 ∷ [])

-- a class is read exactly where the bytes begin with one, and it takes just the bytes of that
abbrev pub ClassesAreRead : Type 0
ClassesAreRead = (at : ℕ) (bytes : List ℕ) (set : ℕ → Bool) (used : ℕ)
    → (item at (91 ∷ bytes) ≡ (Atom (Bytes set), used)) ↔ ((word rest : List ℕ) × (91 ∷ bytes ≡ word ++ rest) × (used ≡ length word) × IsClass set word)
