-- A row of reached places decides whether a pattern fits.
use Rattle.std.proofs.Common.{◌≡◌, ℕ, List, [], ◌∷◌, Bool, true, false, refl, ap, ◌∙◌, sym}
use Rattle.std.specs.Prelude.{◌==◌, not, ◌&&◌, ◌||◌}
use Rattle.std.proofs.lemmas.Bool.{eqb-true}
use Rattle.std.proofs.Math.Bool.{and-true}
use Rattle.std.proofs.Common.{cond}
use Rattle.conf_groups.specs.Files.{fits, some_end, one_byte}
use Rattle.conf_groups.specs.Matching.{first_of, others, after_star, after_byte, after_one, after_all, ends}

-- some place that is reached has what is left of the pattern after it
abbrev reaches : List Bool → List ℕ → List ℕ → Bool
reaches row pattern [] = first_of row && fits pattern []
reaches row pattern (b ∷ bs) = (first_of row && fits pattern (b ∷ bs)) || reaches (others row) pattern bs

or_assoc : (a b c : Bool) → ((a || b) || c) ≡ (a || (b || c))
or_assoc true b c = refl
or_assoc false b c = refl

-- the law of one step of a *
star_step : (r on nb f t m : Bool) → (((r || on) && f) || ((((r || on) && nb) && t) || m)) ≡ ((on && (f || (nb && t))) || ((r && (f || (nb && t))) || m))
star_step true true true true t m = refl
star_step true true true false true m = refl
star_step true true true false false m = refl
star_step true true false true t m = refl
star_step true true false false t m = refl
star_step true false true true t m = refl
star_step true false true false t m = refl
star_step true false false true t m = refl
star_step true false false false t m = refl
star_step false true true true t m = refl
star_step false true true false t m = refl
star_step false true false true t m = refl
star_step false true false false t m = refl
star_step false false nb f t m = refl

star_end : (r on f : Bool) → ((r || on) && f) ≡ ((on && f) || (r && f))
star_end true true true = refl
star_end true true false = refl
star_end true false f = refl
star_end false true true = refl
star_end false true false = refl
star_end false false f = refl

reaches_star : (on : Bool) (row : List Bool) (p bs : List ℕ) → reaches (after_star on row bs) p bs ≡ ((on && some_end (fits p) bs) || reaches row (42 ∷ p) bs)
reaches_star on row p [] = star_end (first_of row) on (fits p [])
reaches_star on row p (b ∷ bs) =
    ap (λ x. ((first_of row || on) && fits p (b ∷ bs)) || x) (reaches_star ((first_of row || on) && not (b == 47)) (others row) p bs)
    ∙ star_step (first_of row) on (not (b == 47)) (fits p (b ∷ bs)) (some_end (fits p) bs) (reaches (others row) (42 ∷ p) bs)

and_none : (x : Bool) → (x && false) ≡ false
and_none true = refl
and_none false = refl

or_none : (x r : Bool) → x ≡ (x || (r && false))
or_none true r = refl
or_none false true = refl
or_none false false = refl

or_nothing : (x : Bool) → (x || false) ≡ x
or_nothing true = refl
or_nothing false = refl

-- the law of one step of a byte
byte_step : (x r e f m : Bool) → (x || (((r && e) && f) || m)) ≡ (x || ((r && (e && f)) || m))
byte_step true r e f m = refl
byte_step false true e f m = refl
byte_step false false e f m = refl

byte_fits : (c : ℕ) (p bs : List ℕ) → (c == 42) ≡ false → fits (c ∷ p) bs ≡ one_byte c (fits p) bs
byte_fits c p bs h = ap (λ t. cond t (some_end (fits p) bs) (one_byte c (fits p) bs)) h

reaches_byte : (c : ℕ) (d : Bool) (row : List Bool) (p bs : List ℕ) → (c == 42) ≡ false → reaches (d ∷ after_byte c row bs) p bs ≡ ((d && fits p bs) || reaches row (c ∷ p) bs)
reaches_byte c d row p [] h =
    or_none (d && fits p []) (first_of row) ∙ ap (λ x. (d && fits p []) || (first_of row && x)) (sym (byte_fits c p [] h))
reaches_byte c d row p (b ∷ bs) h =
    ap (λ x. (d && fits p (b ∷ bs)) || x) (reaches_byte c (first_of row && c == b) (others row) p bs h)
    ∙ byte_step (d && fits p (b ∷ bs)) (first_of row) (c == b) (fits p bs) (reaches (others row) (c ∷ p) bs)
    ∙ ap (λ x. (d && fits p (b ∷ bs)) || ((first_of row && x) || reaches (others row) (c ∷ p) bs)) (sym (byte_fits c p (b ∷ bs) h))

by_byte : (t : Bool) (c : ℕ) (row : List Bool) (p name : List ℕ) → (c == 42) ≡ t → reaches (cond t (after_star false row name) (false ∷ after_byte c row name)) p name ≡ reaches row (c ∷ p) name
by_byte true c row p name h = reaches_star false row p name ∙ ap (λ n. reaches row (n ∷ p) name) (sym (eqb-true c 42 h))
by_byte false c row p name h = reaches_byte c false row p name h

reaches_one : (c : ℕ) (row : List Bool) (p name : List ℕ) → reaches (after_one c row name) p name ≡ reaches row (c ∷ p) name
reaches_one c row p name = by_byte (c == 42) c row p name refl

reaches_nothing : (row : List Bool) (name : List ℕ) → reaches row [] name ≡ ends row name
reaches_nothing row [] = and-true (first_of row)
reaches_nothing row (b ∷ bs) = ap (λ x. x || reaches (others row) [] bs) (and_none (first_of row)) ∙ reaches_nothing (others row) bs

reaches_all : (p : List ℕ) (row : List Bool) (name : List ℕ) → reaches (after_all p row name) [] name ≡ reaches row p name
reaches_all [] row name = refl
reaches_all (c ∷ p) row name = reaches_all p (after_one c row name) name ∙ reaches_one c row p name

no_row : (p name : List ℕ) → reaches [] p name ≡ false
no_row p [] = refl
no_row p (b ∷ bs) = no_row p bs

one_row : (p name : List ℕ) → reaches (true ∷ []) p name ≡ fits p name
one_row p [] = refl
one_row p (b ∷ bs) = ap (λ x. fits p (b ∷ bs) || x) (no_row p bs) ∙ or_nothing (fits p (b ∷ bs))

-- from the place before the name on, the last row tells whether the pattern fits
pub ends_after_all : (p name : List ℕ) → ends (after_all p (true ∷ []) name) name ≡ fits p name
ends_after_all p name = sym (reaches_nothing (after_all p (true ∷ []) name) name) ∙ reaches_all p (true ∷ []) name ∙ one_row p name
