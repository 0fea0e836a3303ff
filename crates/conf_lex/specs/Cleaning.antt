-- How a line of a conf is cleaned, in three passes, and the words of a cleaned line.
use Rattle.std.specs.Prelude.{ℕ, List, [], ◌∷◌, ◌++◌, ◌==◌, Bool, false, not, ◌&&◌, ◌||◌, if◌then◌else◌, length, filter}
use Rattle.std.specs.List.{slice_split, flat_map}

-- 1. A `#` outside double quotes goes, and all that follows it. The first argument says whether the text
-- begins inside quotes.
-- A quote that isn't closed reaches to the line's end.
abbrev pub before_comment : Bool → List ℕ → List ℕ
before_comment quoted [] = []
before_comment quoted (b ∷ bs) =
    if b == 35 && not quoted then []
    else b ∷ before_comment (if b == 34 then not quoted else quoted) bs

-- 2. The first `=` that is left gets a space on either side.
abbrev pub spaced : List ℕ → List ℕ
spaced [] = []
spaced (b ∷ bs) = if b == 61 then 32 ∷ 61 ∷ 32 ∷ bs else b ∷ spaced bs

-- space, tab and carriage return
abbrev pub is_white : ℕ → Bool
is_white b = b == 32 || b == 9 || b == 13

-- the parts between the bytes that pass a test, without empty ones
abbrev pub pieces : (ℕ → Bool) → List ℕ → List (List ℕ)
pieces test bytes = filter (λ w. not (length w == 0)) (slice_split test bytes)

-- words with one space between each two
abbrev pub joined : List (List ℕ) → List ℕ
joined [] = []
joined (w ∷ ws) = w ++ flat_map (λ v. 32 ∷ v) ws

-- 3. A run of white space becomes one space, and at both ends it goes.
abbrev pub folded : List ℕ → List ℕ
folded bytes = joined (pieces is_white bytes)

-- the line, cleaned
abbrev pub cleaned : List ℕ → List ℕ
cleaned line = folded (spaced (before_comment false line))

-- The words of a cleaned line are what spaces separate.
abbrev pub words : List ℕ → List (List ℕ)
words text = pieces (λ b. b == 32) text

-- a word, if it has bytes
abbrev pub nonempty : List ℕ → List (List ℕ)
nonempty word = if length word == 0 then [] else word ∷ []
