-- Cleaning what is clean, and comments.
use Rattle.std.proofs.Common.{◌≡◌, ◌==◌, ◌+◌, ◌%◌, ℕ, List, [], ◌∷◌, ◌++◌, length, arith, Bool, true, false, cond, refl, sym, ap, ◌∙◌}
use Rattle.std.specs.Prelude.{filter, not, ◌||◌, ◌&&◌, if◌then◌else◌}
use Rattle.std.specs.List.{slice_split, onto_first, count_by}
use Rattle.std.proofs.lemmas.List.{append-nil}
use Rattle.std.proofs.lemmas.List.Sums.{sum_by-cons}
use Rattle.std.proofs.lemmas.List.Elements.{filter-append}
use Rattle.std.proofs.lemmas.Bool.{eqb-true}
use Rattle.std.proofs.lemmas.Bool.Decides.{nat_tests}
use Rattle.std.specs.Prelude.{◌⊎◌}
use Rattle.std.proofs.Common.{inl, inr}
use Rattle.conf_lex.specs.Cleaning.{before_comment, cleaned, is_white, joined, pieces, spaced}
use Rattle.conf_lex.specs.Statements.{statement, by_words}
use Rattle.conf_lex.specs.Laws.{CleanStaysClean, CommentsHaveNoEffect}
use Rattle.conf_lex.proofs.WordLemmas.{AllFree, IsFree, NoneEmpty, free_pieces, free_pieces_other, nonempty_pieces, pieces_across, pieces_joined, pieces_word, spread, words_of_cleaned}

-- I. Comments

-- whether a text that begins inside quotes or not ends inside quotes
abbrev pub quoted_after : Bool → List ℕ → Bool
quoted_after quoted [] = quoted
quoted_after quoted (b ∷ bs) = quoted_after (if b == 34 then not quoted else quoted) bs

comment_case : (c : Bool) (b : ℕ) (xs ys : List ℕ) → xs ≡ ys → (if c then [] else b ∷ xs) ≡ (if c then [] else b ∷ ys)
comment_case c b xs ys e = ap (λ l. if c then [] else b ∷ l) e

-- a comment's mark outside quotes ends the line
before_mark : (quoted : Bool) (before comment : List ℕ) → quoted_after quoted before ≡ false → before_comment quoted (before ++ 35 ∷ comment) ≡ before_comment quoted before
before_mark quoted [] comment out = rw out refl
before_mark quoted (b ∷ bs) comment out = comment_case (b == 35 && not quoted) b _ _ (before_mark (if b == 34 then not quoted else quoted) bs comment out)

abbrev pub is_odd : Bool → ℕ
is_odd true = 1
is_odd false = 0

step_case : (c quoted : Bool) (n : ℕ) → (is_odd quoted + (cond c 1 0 + n)) % 2 ≡ 0 → (is_odd (if c then not quoted else quoted) + n) % 2 ≡ 0
step_case true true n e = omega (arith, e)
step_case true false n e = omega (arith, e)
step_case false true n e = omega (arith, e)
step_case false false n e = omega (arith, e)

ends_outside : (quoted : Bool) (bs : List ℕ) → (is_odd quoted + count_by (λ b. b == 34) bs) % 2 ≡ 0 → quoted_after quoted bs ≡ false
ends_outside true [] e = absurd (omega (arith, e))
ends_outside false [] e = refl
ends_outside quoted (b ∷ bs) e =
    let step : (is_odd quoted + (cond (b == 34) 1 0 + count_by (λ b. b == 34) bs)) % 2 ≡ 0 = ap (λ n. (is_odd quoted + n) % 2) (sym (sum_by-cons (λ b. cond (b == 34) 1 0) b bs)) ∙ e in
    ends_outside (if b == 34 then not quoted else quoted) bs (step_case (b == 34) quoted (count_by (λ b. b == 34) bs) step)

pub comments_have_no_effect : CommentsHaveNoEffect
comments_have_no_effect = record {
  cleaned_alike = λ before comment even. ap (λ l. joined (pieces is_white (spaced l))) (before_mark false before comment (ends_outside false before (omega (arith, even))));
}

-- II. Whether a comment begins in a text goes by the bytes that are no white space.

abbrev pub has_mark : Bool → List ℕ → Bool
has_mark quoted [] = false
has_mark quoted (b ∷ bs) = (b == 35 && not quoted) || has_mark (if b == 34 then not quoted else quoted) bs

unmarked_case : (c : Bool) (b : ℕ) (rest : Bool) (xs bs : List ℕ) → (c || rest) ≡ false → (rest ≡ false → xs ≡ bs) → (if c then [] else b ∷ xs) ≡ b ∷ bs
unmarked_case true b rest xs bs none later = absurd cc
unmarked_case false b rest xs bs none later = ap (λ l. b ∷ l) (later none)

-- a text in which no comment begins stays
pub unmarked_stays : (quoted : Bool) (bs : List ℕ) → has_mark quoted bs ≡ false → before_comment quoted bs ≡ bs
unmarked_stays quoted [] none = refl
unmarked_stays quoted (b ∷ bs) none = unmarked_case (b == 35 && not quoted) b _ _ bs none (λ later. unmarked_stays (if b == 34 then not quoted else quoted) bs later)

cut_case : (c : Bool) (b : ℕ) (quoted : Bool) (xs : List ℕ) → (b == 35 && not quoted) ≡ c → has_mark (if b == 34 then not quoted else quoted) xs ≡ false → has_mark quoted (if c then [] else b ∷ xs) ≡ false
cut_case true b quoted xs e none = refl
cut_case false b quoted xs e none = rw (e, none) refl

-- no comment begins in what stands before one
pub unmarked_before : (quoted : Bool) (bs : List ℕ) → has_mark quoted (before_comment quoted bs) ≡ false
unmarked_before quoted [] = refl
unmarked_before quoted (b ∷ bs) = cut_case (b == 35 && not quoted) b quoted _ refl (unmarked_before (if b == 34 then not quoted else quoted) bs)

-- the bytes that are no white space
abbrev pub solid : List ℕ → List ℕ
solid bs = filter (λ b. not (is_white b)) bs

white_is_no_mark : (b : ℕ) → is_white b ≡ true → ((b == 35) ≡ false) × ((b == 34) ≡ false)
white_is_no_mark b e = (grind (arith, nat_tests), grind (arith, nat_tests))

mark_case : (c : Bool) (b : ℕ) (quoted : Bool) (bs : List ℕ) → is_white b ≡ c → ((q : Bool) → has_mark q (solid bs) ≡ has_mark q bs) → has_mark quoted (cond (not c) (b ∷ solid bs) (solid bs)) ≡ has_mark quoted (b ∷ bs)
mark_case true b quoted bs e rest =
    let plain : ((b == 35) ≡ false) × ((b == 34) ≡ false) = white_is_no_mark b e in
    rw (plain.0, plain.1) (rest quoted)
mark_case false b quoted bs e rest = ap (λ m. (b == 35 && not quoted) || m) (rest (if b == 34 then not quoted else quoted))

pub mark_solid : (quoted : Bool) (bs : List ℕ) → has_mark quoted (solid bs) ≡ has_mark quoted bs
mark_solid quoted [] = refl
mark_solid quoted (b ∷ bs) = mark_case (is_white b) b quoted bs refl (λ q. mark_solid q bs)

-- the words without what stands between them
abbrev pub flat : List (List ℕ) → List ℕ
flat [] = []
flat (w ∷ ws) = w ++ flat ws

solid_append : (a b : List ℕ) → solid (a ++ b) ≡ solid a ++ solid b
solid_append a b = filter-append (λ c. not (is_white c)) a b

solid_free : (w : List ℕ) → IsFree is_white w → solid w ≡ w
solid_free [] free = refl
solid_free (b ∷ bs) free = rw (free.0, solid_free bs free.1) refl

solid_spread : (ws : List (List ℕ)) → AllFree is_white ws → solid (spread ws) ≡ flat ws
solid_spread [] free = refl
solid_spread (w ∷ ws) free = solid_append w (spread ws) ∙ ap (λ l. l ++ solid (spread ws)) (solid_free w free.0) ∙ ap (λ l. w ++ l) (solid_spread ws free.1)

solid_joined : (ws : List (List ℕ)) → AllFree is_white ws → solid (joined ws) ≡ flat ws
solid_joined [] free = refl
solid_joined (w ∷ ws) free = solid_spread (w ∷ ws) free

flat_case : (c : Bool) (b : ℕ) (parts : List (List ℕ)) → flat (cond c ([] ∷ parts) (onto_first b parts)) ≡ cond (not c) (b ∷ flat parts) (flat parts)
flat_case true b parts = refl
flat_case false b [] = refl
flat_case false b (p ∷ ps) = refl

flat_split : (bs : List ℕ) → flat (slice_split is_white bs) ≡ solid bs
flat_split [] = refl
flat_split (b ∷ bs) = flat_case (is_white b) b (slice_split is_white bs) ∙ ap (λ l. cond (not (is_white b)) (b ∷ l) l) (flat_split bs)

kept_case : (c : Bool) (w : List ℕ) (ws : List (List ℕ)) → (length w == 0) ≡ c → flat (cond (not c) (w ∷ ws) ws) ≡ w ++ flat ws
kept_case true [] ws e = refl
kept_case true (b ∷ w) ws e = absurd (grind (arith, nat_tests))
kept_case false w ws e = refl

flat_kept : (ws : List (List ℕ)) → flat (filter (λ w. not (length w == 0)) ws) ≡ flat ws
flat_kept [] = refl
flat_kept (w ∷ ws) = kept_case (length w == 0) w _ refl ∙ ap (λ l. w ++ l) (flat_kept ws)

flat_pieces : (bs : List ℕ) → flat (pieces is_white bs) ≡ solid bs
flat_pieces bs = flat_kept (slice_split is_white bs) ∙ flat_split bs

spaced_case : (c : Bool) (b : ℕ) (bs : List ℕ) → (b == 61) ≡ c → solid (spaced bs) ≡ solid bs → solid (if c then 32 ∷ 61 ∷ 32 ∷ bs else b ∷ spaced bs) ≡ solid (b ∷ bs)
spaced_case true b bs e rest = rw (eqb-true b 61 e) refl
spaced_case false b bs e rest = ap (λ l. cond (not (is_white b)) (b ∷ l) l) rest

solid_spaced : (bs : List ℕ) → solid (spaced bs) ≡ solid bs
solid_spaced [] = refl
solid_spaced (b ∷ bs) = spaced_case (b == 61) b bs refl (solid_spaced bs)

-- III. The first `=` is a word of its own.

abbrev pub is_equals_byte : ℕ → Bool
is_equals_byte b = b == 61

-- no word has an `=`, up to one that is nothing else
abbrev pub IsApart : List (List ℕ) → Type 0
IsApart [] = Unit {0}
IsApart (w ∷ ws) = (w ≡ 61 ∷ []) ⊎ (IsFree is_equals_byte w × IsApart ws)

apart_free : (ws : List (List ℕ)) → AllFree is_equals_byte ws → IsApart ws
apart_free [] free = tt
apart_free (w ∷ ws) free = inr (free.0, apart_free ws free.1)

apart_first : (ws vs : List (List ℕ)) → AllFree is_equals_byte ws → IsApart (ws ++ (61 ∷ []) ∷ vs)
apart_first [] vs free = inl refl
apart_first (w ∷ ws) vs free = inr (free.0, apart_first ws vs free.1)

-- what has no `=` in front stays
spaced_free : (front rest : List ℕ) → IsFree is_equals_byte front → spaced (front ++ rest) ≡ front ++ spaced rest
spaced_free [] rest free = refl
spaced_free (b ∷ bs) rest free = rw free.0 (ap (λ l. b ∷ l) (spaced_free bs rest free.1))

-- a text has no `=`, or a first one
abbrev pub HasFirst : List ℕ → Type 0
HasFirst text = (front : List ℕ) × (rest : List ℕ) × IsFree is_equals_byte front × (text ≡ front ++ 61 ∷ rest)

first_case : (c : Bool) (b : ℕ) (bs : List ℕ) → (b == 61) ≡ c → (IsFree is_equals_byte bs ⊎ HasFirst bs) → IsFree is_equals_byte (b ∷ bs) ⊎ HasFirst (b ∷ bs)
first_case true b bs e rest = inr ([], bs, tt, ap (λ n. n ∷ bs) (eqb-true b 61 e))
first_case false b bs e (inl free) = inl (e, free)
first_case false b bs e (inr has) = inr (b ∷ has.0, has.1, (e, has.2), ap (λ l. b ∷ l) has.3)

first_equals : (text : List ℕ) → IsFree is_equals_byte text ⊎ HasFirst text
first_equals [] = inl tt
first_equals (b ∷ bs) = first_case (b == 61) b bs refl (first_equals bs)

apart_case : (text : List ℕ) → IsFree is_equals_byte text ⊎ HasFirst text → IsApart (pieces is_white (spaced text))
apart_case text (inl free) =
    let same : spaced text ≡ text = ap spaced (sym (append-nil text)) ∙ spaced_free text [] free ∙ append-nil text in
    rw same (apart_free _ (free_pieces_other is_white is_equals_byte text free))
apart_case text (inr has) =
    let same : spaced text ≡ has.0 ++ (32 ∷ 61 ∷ 32 ∷ has.1) = ap spaced has.3 ∙ spaced_free has.0 (61 ∷ has.1) has.2 in
    let cut : pieces is_white (has.0 ++ (32 ∷ 61 ∷ 32 ∷ has.1)) ≡ pieces is_white has.0 ++ (61 ∷ []) ∷ pieces is_white has.1 = pieces_across is_white has.0 32 (61 ∷ 32 ∷ has.1) refl ∙ ap (λ l. pieces is_white has.0 ++ l) (pieces_across is_white (61 ∷ []) 32 has.1 refl) in
    rw (same, cut) (apart_first (pieces is_white has.0) (pieces is_white has.1) (free_pieces_other is_white is_equals_byte has.0 has.2))

pub apart_spaced : (text : List ℕ) → IsApart (pieces is_white (spaced text))
apart_spaced text = apart_case text (first_equals text)

pieces_spread : (ws : List (List ℕ)) → AllFree is_white ws → NoneEmpty ws → pieces is_white (spread ws) ≡ ws
pieces_spread [] free full = refl
pieces_spread (w ∷ ws) free full = pieces_joined is_white refl (w ∷ ws) free full

-- words that are apart stay as they are
spaced_spread : (ws : List (List ℕ)) → AllFree is_white ws → NoneEmpty ws → IsApart ws → pieces is_white (spaced (spread ws)) ≡ ws
spaced_spread [] free full apart = refl
spaced_spread (w ∷ ws) free full (inl e) =
    rw e (pieces_across is_white (61 ∷ []) 32 (spread ws) refl ∙ ap (λ l. (61 ∷ []) ∷ l) (pieces_spread ws free.1 full.1))
spaced_spread (w ∷ []) free full (inr apart) =
    ap (pieces is_white) (spaced_free w [] apart.0 ∙ append-nil w) ∙ pieces_word is_white w free.0 full.0
spaced_spread (w ∷ v ∷ vs) free full (inr apart) =
    ap (pieces is_white) (spaced_free w (spread (v ∷ vs)) apart.0)
    ∙ pieces_across is_white w 32 (spaced (v ++ spread vs)) refl
    ∙ ap (λ l. l ++ pieces is_white (spaced (v ++ spread vs))) (pieces_word is_white w free.0 full.0)
    ∙ ap (λ l. w ∷ l) (spaced_spread (v ∷ vs) free.1 full.1 apart.1)

-- IV. Clean words

-- Words that a clean line has.
pub record AreClean (ws : List (List ℕ)) : Type 0 where
  pub free : AllFree is_white ws
  pub full : NoneEmpty ws
  pub apart : IsApart ws
  pub unmarked : has_mark false (flat ws) ≡ false

-- the words of a line
abbrev pub line_words : List ℕ → List (List ℕ)
line_words line = pieces is_white (spaced (before_comment false line))

pub line_words_are_clean : (line : List ℕ) → AreClean (line_words line)
line_words_are_clean line = record {
  free = free_pieces is_white (spaced (before_comment false line));
  full = nonempty_pieces is_white (spaced (before_comment false line));
  apart = apart_spaced (before_comment false line);
  unmarked = ap (has_mark false) (flat_pieces (spaced (before_comment false line)) ∙ solid_spaced (before_comment false line)) ∙ mark_solid false (before_comment false line) ∙ unmarked_before false line;
}

spaced_joined : (ws : List (List ℕ)) → AllFree is_white ws → NoneEmpty ws → IsApart ws → pieces is_white (spaced (joined ws)) ≡ ws
spaced_joined [] free full apart = refl
spaced_joined (w ∷ ws) free full apart = spaced_spread (w ∷ ws) free full apart

-- a line of clean words has these words
pub words_stay : (ws : List (List ℕ)) → AreClean ws → line_words (joined ws) ≡ ws
words_stay ws clean =
    let unmarked : has_mark false (joined ws) ≡ false = sym (mark_solid false (joined ws)) ∙ ap (has_mark false) (solid_joined ws clean.free) ∙ clean.unmarked in
    ap (λ l. pieces is_white (spaced l)) (unmarked_stays false (joined ws) unmarked) ∙ spaced_joined ws clean.free clean.full clean.apart

pub joined_is_clean : (ws : List (List ℕ)) → AreClean ws → cleaned (joined ws) ≡ joined ws
joined_is_clean ws clean = ap joined (words_stay ws clean)

-- a line of clean words says what these words say
pub statement_of_words : (ws : List (List ℕ)) → AreClean ws → statement (joined ws) ≡ by_words ws
statement_of_words ws clean = ap by_words (words_of_cleaned (joined ws) ∙ words_stay ws clean)

pub statement_of_line : (line : List ℕ) → statement line ≡ by_words (line_words line)
statement_of_line line = ap by_words (words_of_cleaned line)

pub clean_stays_clean : CleanStaysClean
clean_stays_clean = record {
  cleaned_again = λ line. joined_is_clean (line_words line) (line_words_are_clean line);
  says_the_same = λ line. statement_of_words (line_words line) (line_words_are_clean line) ∙ sym (statement_of_line line);
}
