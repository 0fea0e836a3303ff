-- A file of records: a head, records, and a zero gate. What follows the first zero gate is free.
use Rattle.std.specs.Prelude.{◌≡◌, ◌≢◌, ◌⊎◌, ℕ, ◌+◌, ◌<◌, ◌^◌, List, [], ◌∷◌, ◌++◌, length, map, drop}
use Rattle.std.specs.List.{All, flat_map}
use Rattle.std.specs.Int.{w64, to_be_bytes}

-- a head: the magic bytes, the length of a name in one byte, the name
abbrev pub head_of : List ℕ → List ℕ → List ℕ
head_of magic name = magic ++ length name ∷ name

-- what follows a record's gate: the length of its body in eight bytes, the highest first, and the body
abbrev pub framed : List ℕ → List ℕ
framed body = to_be_bytes w64 (length body) ++ body

-- a record: its gate, and what follows that
abbrev pub record_bytes : ℕ × List ℕ → List ℕ
record_bytes r = r.0 ∷ framed r.1

-- how long a record with this body is
abbrev pub record_size : List ℕ → ℕ
record_size body = 9 + length body

-- a gate that isn't zero, and a body whose length fits
abbrev pub IsRecord : ℕ × List ℕ → Type 0
IsRecord r = (r.0 ≢ 0) × (length r.1 < 2 ^ 64)

-- So far the file is this head and whole records with these bodies.
pub record Begins (head : List ℕ) (bodies : List (List ℕ)) (file rest : List ℕ) : Type 0 where
  pub gated : List (ℕ × List ℕ)
  pub records : All IsRecord gated
  pub same : map (λ r. r.1) gated ≡ bodies
  pub spells : file ≡ (head ++ flat_map record_bytes gated) ++ rest

-- The file holds records with these bodies.
pub record Holds (head : List ℕ) (bodies : List (List ℕ)) (file : List ℕ) : Type 0 where
  pub free : List ℕ
  pub begins : Begins head bodies file (0 ∷ free)

-- The file holds these records, or these and all of the others.
abbrev pub HoldsAllOrNone : List ℕ → List (List ℕ) → List (List ℕ) → List ℕ → Type 0
HoldsAllOrNone head bodies more file = Holds head bodies file ⊎ Holds head (bodies ++ more) file

-- the gate of a record in a group
abbrev pub open_record : List ℕ → ℕ × List ℕ
open_record body = (1, body)

-- records with these bodies, each gate of which is 1
abbrev pub open_records : List (List ℕ) → List ℕ
open_records bodies = flat_map record_bytes (map open_record bodies)

-- what a group of records writes behind the zero gate: all but its first gate, and the next zero gate
abbrev pub group_bytes : List (List ℕ) → List ℕ
group_bytes bodies = drop 1 (open_records bodies) ++ 0 ∷ []

-- There are some records, and the length of each body fits.
pub record IsGroup (bodies : List (List ℕ)) : Type 0 where
  pub some : 0 < length bodies
  pub fit : All (λ body. length body < 2 ^ 64) bodies

-- A whole record's frame is at the front, with a byte behind it.
pub record IsFramed (bytes body rest : List ℕ) : Type 0 where
  pub fits : length body < 2 ^ 64
  pub spells : bytes ≡ framed body ++ rest
  pub goes_on : 0 < length rest

-- The file isn't empty and begins with no whole head and one byte behind it.
pub record IsNoRecordFile (magic file : List ℕ) : Type 0 where
  pub some : 0 < length file
  pub no_head : (name rest : List ℕ) → file ≡ head_of magic name ++ rest → 0 < length rest → ⊥

-- The file begins with a whole head of another name, and one byte behind it.
pub record HasAnotherName (magic name file : List ℕ) : Type 0 where
  pub its : List ℕ
  pub rest : List ℕ
  pub begins : file ≡ head_of magic its ++ rest
  pub goes_on : 0 < length rest
  pub other : its ≢ name

-- Whole records lead to a gate at this offset that isn't zero, behind which no whole record with a byte
-- behind it follows.
pub record IsBadAt (head file : List ℕ) (offset : ℕ) : Type 0 where
  pub bodies : List (List ℕ)
  pub gate : ℕ
  pub rest : List ℕ
  pub begins : Begins head bodies file (gate ∷ rest)
  pub at : length file ≡ offset + length (gate ∷ rest)
  pub opened : gate ≢ 0
  pub no_record : (body more : List ℕ) → IsFramed rest body more → ⊥
