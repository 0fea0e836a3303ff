-- Permissions and their texts.
use Rattle.std.specs.Prelude.{ℕ, Bool, true, false, ◌==◌, nat_eq, List, [], ◌∷◌, ◌++◌, drop, length, codes, Option, Some, None, if◌then◌else◌}
use Rattle.std.specs.List.{starts_with}
use Rattle.std.specs.Str.{bytes_eq}
use Rattle.conf_lex.specs.declared.perm.Perm.{Perm}

-- `-`
abbrev pub denies : Perm
denies = record { deny = true; lone_create = false; read = false; write = false; rewind = false; create = false; delete = false; merge = false }

-- `R`
abbrev pub reads : Perm
reads = record { deny = false; lone_create = false; read = true; write = false; rewind = false; create = false; delete = false; merge = false }

-- `C` alone
abbrev pub creates : Perm
creates = record { deny = false; lone_create = true; read = false; write = false; rewind = false; create = false; delete = false; merge = false }

-- `RW`, with the letters `+`, `C`, `D` and `M` or without
abbrev pub writes : Bool → Bool → Bool → Bool → Perm
writes plus c d m = record { deny = false; lone_create = false; read = true; write = true; rewind = plus; create = c; delete = d; merge = m }

-- the letter, if it is there
abbrev pub letter : Bool → ℕ → List ℕ
letter b c = if b then c ∷ [] else []

-- the letters after `RW`, in the order of a permission's text
abbrev pub letters : Perm → List ℕ
letters p = letter p.rewind 43 ++ (letter p.create 67 ++ (letter p.delete 68 ++ letter p.merge 77))

-- a permission's text
abbrev pub perm_text : Perm → List ℕ
perm_text p =
    if p.deny then codes "-"
    else if p.lone_create then codes "C"
    else if p.write then codes "RW" ++ letters p
    else codes "R"

-- the letter is at the front
abbrev pub has_letter : ℕ → List ℕ → Bool
has_letter c [] = false
has_letter c (b ∷ bs) = b == c

-- what follows the letter, or all where it isn't at the front
abbrev pub after_letter : ℕ → List ℕ → List ℕ
after_letter c [] = []
after_letter c (b ∷ bs) = if b == c then bs else b ∷ bs

-- `DC` at the front is read as `CD`
abbrev pub c_before_d : List ℕ → List ℕ
c_before_d w = if starts_with nat_eq w (codes "DC") then codes "CD" ++ drop 2 w else w

-- `+`, then `C` and `D` in either order, then `M`, each once or not at all, and nothing else
abbrev pub writes_by : List ℕ → Option Perm
writes_by plus =
    let c = c_before_d (after_letter 43 plus) in
    let d = after_letter 67 c in
    let m = after_letter 68 d in
    if length (after_letter 77 m) == 0
    then Some (writes (has_letter 43 plus) (has_letter 67 c) (has_letter 68 d) (has_letter 77 m))
    else None

-- the permission that a word is
abbrev pub perm_of : List ℕ → Option Perm
perm_of word =
    if bytes_eq word (codes "-") then Some denies
    else if bytes_eq word (codes "R") then Some reads
    else if bytes_eq word (codes "C") then Some creates
    else if starts_with nat_eq word (codes "RW") then writes_by (drop 2 word)
    else None
