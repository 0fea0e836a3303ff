-- A text is cut into its pieces from the front.
use Rattle.std.proofs.Common.{◌≡◌, ◌<◌, ◌≤◌, ◌+◌, ◌-◌, ◌==◌, ℕ, zero, suc, List, [], ◌∷◌, ◌++◌, take, drop, length, get_or, Bool, true, false, arith, refl, sym, ap, subst, ◌∙◌, take-append-drop, length-drop, get_or-drop, drop-drop}
use Rattle.std.specs.Prelude.{if◌then◌else◌}
use Rattle.std.proofs.Math.Seq.{drop-cons}
use Rattle.std.proofs.lemmas.Bool.{eqb-true}
use Rattle.std.proofs.lemmas.List.{nil_from_length, take_all}
use Rattle.conf_lex.specs.Cleaning.{is_white, nonempty, pieces}
use Rattle.conf_lex.proofs.WordLemmas.{IsFree, pieces_across, pieces_word}

-- one more byte that doesn't pass
free_longer : (test : ℕ → Bool) (xs : List ℕ) (n : ℕ) → n < length xs → IsFree test (take n xs) → test (get_or xs n 0) ≡ false → IsFree test (take (suc n) xs)
free_longer test [] n within free e = absurd (omega arith)
free_longer test (x ∷ xs) zero within free e = (e, tt)
free_longer test (x ∷ xs) (suc n) within free e = (free.0, free_longer test xs n (omega arith) free.1 e)

piece_case : (test : ℕ → Bool) (c : Bool) (w : List ℕ) → (length w == 0) ≡ c → IsFree test w → pieces test w ≡ (if c then [] else w ∷ [])
piece_case test true w e free = ap (pieces test) (nil_from_length w (eqb-true (length w) 0 e))
piece_case test false w e free = pieces_word test w free e

-- a text in which no byte passes is one piece, if it has bytes
pub last_piece : (test : ℕ → Bool) (w : List ℕ) → IsFree test w → pieces test w ≡ nonempty w
last_piece test w free = piece_case test (length w == 0) w refl free

first_piece : (test : ℕ → Bool) (xs : List ℕ) (n : ℕ) → n < length xs → IsFree test (take n xs) → test (get_or xs n 0) ≡ true → pieces test xs ≡ nonempty (take n xs) ++ pieces test (drop (suc n) xs)
first_piece test xs n within free e =
    ap (pieces test) (sym (take-append-drop n xs) ∙ ap (λ l. take n xs ++ l) (drop-cons xs n 0 within))
    ∙ pieces_across test (take n xs) (get_or xs n 0) (drop (suc n) xs) e
    ∙ ap (λ l. l ++ pieces test (drop (suc n) xs)) (last_piece test (take n xs) free)

module _ (line : List ℕ) (start at : ℕ) (order : start ≤ at) where
  there : get_or (drop start line) (at - start) 0 ≡ get_or line at 0
  there = get_or-drop start line (at - start) 0 ∙ ap (λ n. get_or line n 0) (omega arith)

  -- what was passed since the last white space, and one byte more
  pub still_free : at < length line → IsFree is_white (take (at - start) (drop start line)) → is_white (get_or line at 0) ≡ false → IsFree is_white (take (at + 1 - start) (drop start line))
  still_free within free e =
      let size : suc (at - start) ≡ at + 1 - start = omega arith in
      subst (λ n. IsFree is_white (take n (drop start line))) size
      (free_longer is_white (drop start line) (at - start) (omega (arith, length-drop start line)) free (ap is_white there ∙ e))

  -- white space ends the piece before it
  pub cut_at_white : at < length line → IsFree is_white (take (at - start) (drop start line)) → is_white (get_or line at 0) ≡ true
      → pieces is_white (drop start line) ≡ nonempty (take (at - start) (drop start line)) ++ pieces is_white (drop (at + 1) line)
  cut_at_white within free e =
      first_piece is_white (drop start line) (at - start) (omega (arith, length-drop start line)) free (ap is_white there ∙ e)
      ∙ ap (λ l. nonempty (take (at - start) (drop start line)) ++ pieces is_white l) (drop-drop (suc (at - start)) start line ∙ ap (λ n. drop n line) (omega arith))

  -- so does the line's end
  pub cut_at_end : length line ≤ at → IsFree is_white (take (at - start) (drop start line)) → pieces is_white (drop start line) ≡ nonempty (drop start line)
  cut_at_end end free =
      last_piece is_white (drop start line) (subst (IsFree is_white) (take_all (at - start) (drop start line) (omega (arith, length-drop start line))) free)

-- after white space nothing was passed yet
pub free_anew : (line : List ℕ) (start : ℕ) → IsFree is_white (take (start - start) (drop start line))
free_anew line start =
    let none : 0 ≡ start - start = omega arith in
    subst (λ n. IsFree is_white (take n (drop start line))) none tt
