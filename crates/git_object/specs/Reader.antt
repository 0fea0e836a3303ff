-- How the forms of bodies are written: as readers, each of which finds a value at the front of some bytes.
use Rattle.std.specs.Prelude.{ℕ, zero, suc, ◌+◌, ◌==◌, if◌then◌else◌, List, [], ◌∷◌, length, take, drop, position, Option, Some, None}
use Rattle.std.specs.Option.{option_map_or}
use Rattle.std.specs.Str.{bytes_eq}

-- one reader behind another: where the first finds nothing, neither do they together
infixl 10 ◌>>=◌
abbrev pub ◌>>=◌ : {A B : Type 0} → Option A → (A → Option B) → Option B
None >>= f = None
Some x >>= f = f x

-- what follows this word at the front
unfoldable pub literal : List ℕ → List ℕ → Option (List ℕ)
literal word bytes = if bytes_eq (take (length word) bytes) word then Some (drop (length word) bytes) else None

-- the bytes before the first such byte, and those behind it
unfoldable pub up_to : ℕ → List ℕ → Option (List ℕ × List ℕ)
up_to end bytes = do
  at ← position (λ b. b == end) bytes
  Some (take at bytes, drop (at + 1) bytes)

module _ {A : Type 0} (read : List ℕ → Option (A × List ℕ)) where
  -- the values that a reader finds one after another, at most so many
  unfoldable pub items_within : ℕ → List ℕ → List A
  items_within zero bytes = []
  items_within (suc n) bytes = option_map_or (λ found. found.0 ∷ items_within n found.1) (read bytes) []

  -- what follows the last of them
  unfoldable pub behind_within : ℕ → List ℕ → List ℕ
  behind_within zero bytes = bytes
  behind_within (suc n) bytes = option_map_or (λ found. behind_within n found.1) (read bytes) bytes

  -- all that a reader finds one after another at the front: each takes a byte at least, so there are no more
  -- of them than bytes
  abbrev pub items : List ℕ → List A
  items bytes = items_within (length bytes) bytes

  -- what follows the last of all of them
  abbrev pub behind : List ℕ → List ℕ
  behind bytes = behind_within (length bytes) bytes
