-- The pieces of a text, and the words of a cleaned line.
use Rattle.std.proofs.Common.{◌≡◌, ◌≤◌, ◌==◌, ℕ, List, [], ◌∷◌, ◌++◌, length, arith, Bool, true, false, cond, refl, ap, ◌∙◌}
use Rattle.std.proofs.lemmas.List.{append-nil}
use Rattle.std.proofs.lemmas.List.Elements.{filter-append}
use Rattle.std.specs.Prelude.{filter, not, ◌||◌}
use Rattle.std.specs.List.{slice_split, onto_first, flat_map}
use Rattle.conf_lex.specs.Cleaning.{before_comment, cleaned, is_white, joined, pieces, spaced, words}

-- no byte passes the test
abbrev pub IsFree : (ℕ → Bool) → List ℕ → Type 0
IsFree test [] = Unit {0}
IsFree test (b ∷ bs) = (test b ≡ false) × IsFree test bs

abbrev pub AllFree : (ℕ → Bool) → List (List ℕ) → Type 0
AllFree test [] = Unit {0}
AllFree test (w ∷ ws) = IsFree test w × AllFree test ws

-- none of the words is empty
abbrev pub NoneEmpty : List (List ℕ) → Type 0
NoneEmpty [] = Unit {0}
NoneEmpty (w ∷ ws) = ((length w == 0) ≡ false) × NoneEmpty ws

-- the words with a space before each
abbrev pub spread : List (List ℕ) → List ℕ
spread ws = flat_map (λ v. 32 ∷ v) ws

split_case : (test : ℕ → Bool) (b : ℕ) (c : Bool) → test b ≡ c → (parts : List (List ℕ)) → AllFree test parts → AllFree test (cond c ([] ∷ parts) (onto_first b parts))
split_case test b true e parts free = (tt, free)
split_case test b false e [] free = ((e, tt), tt)
split_case test b false e (p ∷ ps) free = ((e, free.0), free.1)

free_split : (test : ℕ → Bool) (bs : List ℕ) → AllFree test (slice_split test bs)
free_split test [] = (tt, tt)
free_split test (b ∷ bs) = split_case test b (test b) refl (slice_split test bs) (free_split test bs)

-- what no byte of a text passes, no byte of its parts passes
other_case : (test other : ℕ → Bool) (b : ℕ) (c : Bool) → other b ≡ false → (parts : List (List ℕ)) → AllFree other parts → AllFree other (cond c ([] ∷ parts) (onto_first b parts))
other_case test other b true e parts free = (tt, free)
other_case test other b false e [] free = ((e, tt), tt)
other_case test other b false e (p ∷ ps) free = ((e, free.0), free.1)

free_other : (test other : ℕ → Bool) (bs : List ℕ) → IsFree other bs → AllFree other (slice_split test bs)
free_other test other [] free = (tt, tt)
free_other test other (b ∷ bs) free = other_case test other b (test b) free.0 (slice_split test bs) (free_other test other bs free.1)

kept_case : (test : ℕ → Bool) (c : Bool) (w : List ℕ) (ws : List (List ℕ)) → IsFree test w → AllFree test ws → AllFree test (cond c (w ∷ ws) ws)
kept_case test true w ws fw fs = (fw, fs)
kept_case test false w ws fw fs = fs

free_kept : (test : ℕ → Bool) (ws : List (List ℕ)) → AllFree test ws → AllFree test (filter (λ w. not (length w == 0)) ws)
free_kept test [] free = tt
free_kept test (w ∷ ws) free = kept_case test (not (length w == 0)) w _ free.0 (free_kept test ws free.1)

pub free_pieces : (test : ℕ → Bool) (bs : List ℕ) → AllFree test (pieces test bs)
free_pieces test bs = free_kept test (slice_split test bs) (free_split test bs)

pub free_pieces_other : (test other : ℕ → Bool) (bs : List ℕ) → IsFree other bs → AllFree other (pieces test bs)
free_pieces_other test other bs free = free_kept other (slice_split test bs) (free_other test other bs free)

nonempty_case : (c : Bool) (w : List ℕ) (ws : List (List ℕ)) → (length w == 0) ≡ c → NoneEmpty ws → NoneEmpty (cond (not c) (w ∷ ws) ws)
nonempty_case true w ws e rest = rest
nonempty_case false w ws e rest = (e, rest)

nonempty_kept : (ws : List (List ℕ)) → NoneEmpty (filter (λ w. not (length w == 0)) ws)
nonempty_kept [] = tt
nonempty_kept (w ∷ ws) = nonempty_case (length w == 0) w _ refl (nonempty_kept ws)

pub nonempty_pieces : (test : ℕ → Bool) (bs : List ℕ) → NoneEmpty (pieces test bs)
nonempty_pieces test bs = nonempty_kept (slice_split test bs)

-- a text of one part, and a first part up to a byte that passes
split_free : (test : ℕ → Bool) (w : List ℕ) → IsFree test w → slice_split test w ≡ w ∷ []
split_free test [] free = refl
split_free test (b ∷ bs) free = rw (free.0, split_free test bs free.1)

split_at : (test : ℕ → Bool) (w : List ℕ) (b : ℕ) (rest : List ℕ) → IsFree test w → test b ≡ true → slice_split test (w ++ b ∷ rest) ≡ w ∷ slice_split test rest
split_at test [] b rest free e = rw e
split_at test (a ∷ w) b rest free e = rw (free.0, split_at test w b rest free.1 e)

filled : (ws : List (List ℕ)) → NoneEmpty ws → filter (λ w. not (length w == 0)) ws ≡ ws
filled [] full = refl
filled (w ∷ ws) full = rw (full.0, filled ws full.1)

split_spread : (test : ℕ → Bool) → test 32 ≡ true → (w : List ℕ) (ws : List (List ℕ)) → IsFree test w → AllFree test ws → slice_split test (w ++ spread ws) ≡ w ∷ ws
split_spread test e w [] fw fs = ap (λ l. slice_split test l) (append-nil w) ∙ split_free test w fw
split_spread test e w (v ∷ vs) fw fs = split_at test w 32 (v ++ spread vs) fw e ∙ ap (λ l. w ∷ l) (split_spread test e v vs fs.0 fs.1)

-- the pieces of words that were joined are these words
pub pieces_joined : (test : ℕ → Bool) → test 32 ≡ true → (ws : List (List ℕ)) → AllFree test ws → NoneEmpty ws → pieces test (joined ws) ≡ ws
pieces_joined test e [] free full = refl
pieces_joined test e (w ∷ ws) free full = ap (λ l. filter (λ w. not (length w == 0)) l) (split_spread test e w ws free.0 free.1) ∙ filled (w ∷ ws) full

-- a byte that is no white space is no space
space_or : (a b : Bool) → (a || b) ≡ false → a ≡ false
space_or true b e = absurd cc
space_or false b e = refl

no_space : (b : ℕ) → is_white b ≡ false → (b == 32) ≡ false
no_space b e = space_or (b == 32) (b == 9) (space_or ((b == 32) || (b == 9)) (b == 13) e)

free_of_space : (w : List ℕ) → IsFree is_white w → IsFree (λ b. b == 32) w
free_of_space [] free = tt
free_of_space (b ∷ bs) free = (no_space b free.0, free_of_space bs free.1)

pub all_free_of_space : (ws : List (List ℕ)) → AllFree is_white ws → AllFree (λ b. b == 32) ws
all_free_of_space [] free = tt
all_free_of_space (w ∷ ws) free = (free_of_space w free.0, all_free_of_space ws free.1)

pub words_of_folded : (bytes : List ℕ) → words (joined (pieces is_white bytes)) ≡ pieces is_white bytes
words_of_folded bytes = pieces_joined (λ b. b == 32) refl (pieces is_white bytes) (all_free_of_space _ (free_pieces is_white bytes)) (nonempty_pieces is_white bytes)

pub words_of_cleaned : (line : List ℕ) → words (cleaned line) ≡ pieces is_white (spaced (before_comment false line))
words_of_cleaned line = words_of_folded (spaced (before_comment false line))

-- a byte that passes parts a text in two
append_case : (test : ℕ → Bool) (b : ℕ) (c : Bool) (xs ys : List (List ℕ)) → 1 ≤ length xs → cond c ([] ∷ (xs ++ ys)) (onto_first b (xs ++ ys)) ≡ cond c ([] ∷ xs) (onto_first b xs) ++ ys
append_case test b true xs ys some = refl
append_case test b false [] ys some = absurd (omega arith)
append_case test b false (x ∷ xs) ys some = refl

parts_case : (b : ℕ) (c : Bool) (xs : List (List ℕ)) → 1 ≤ length xs → 1 ≤ length (cond c ([] ∷ xs) (onto_first b xs))
parts_case b true xs some = omega arith
parts_case b false [] some = absurd (omega arith)
parts_case b false (x ∷ xs) some = omega arith

some_part : (test : ℕ → Bool) (bs : List ℕ) → 1 ≤ length (slice_split test bs)
some_part test [] = omega arith
some_part test (b ∷ bs) = parts_case b (test b) (slice_split test bs) (some_part test bs)

split_across : (test : ℕ → Bool) (front : List ℕ) (b : ℕ) (rest : List ℕ) → test b ≡ true → slice_split test (front ++ b ∷ rest) ≡ slice_split test front ++ slice_split test rest
split_across test [] b rest e = rw e refl
split_across test (a ∷ front) b rest e = rw (split_across test front b rest e) (append_case test a (test a) (slice_split test front) (slice_split test rest) (some_part test front))

pub pieces_across : (test : ℕ → Bool) (front : List ℕ) (b : ℕ) (rest : List ℕ) → test b ≡ true → pieces test (front ++ b ∷ rest) ≡ pieces test front ++ pieces test rest
pieces_across test front b rest e = ap (λ l. filter (λ w. not (length w == 0)) l) (split_across test front b rest e) ∙ filter-append (λ w. not (length w == 0)) (slice_split test front) (slice_split test rest)

-- a word is its own piece
pub pieces_word : (test : ℕ → Bool) (w : List ℕ) → IsFree test w → (length w == 0) ≡ false → pieces test w ≡ w ∷ []
pieces_word test w free some = ap (λ l. filter (λ w. not (length w == 0)) l) (split_free test w free) ∙ rw some refl
