-- The pieces of a name without a dot.
use Rattle.std.proofs.Common.{◌≡◌, ℕ, zero, suc, List, [], ◌∷◌, ◌-◌, Bool, true, false, ◌==◌, ◌&&◌, ◌||◌, not, cond, length, drop, nat_eq, refl, sym, ◌∙◌, ap, arith}
use Rattle.std.proofs.lemmas.Bool.Decides.{nat_tests}
use Rattle.std.specs.Prelude.{codes}
use Rattle.std.specs.List.{list_all, list_any, onto_first, starts_with, ends_with}
use lib.Pointwise.{pointwise}
use Rattle.ref_store.specs.RefName.{is_piece, occurs, pieces}

abbrev has_dot : List ℕ → Bool
has_dot text = list_any (λ y. nat_eq y 46) text

abbrev has_byte : List ℕ → Bool
has_byte piece = not (length piece == 0)

-- a dot stands neither in the first byte nor behind it
first_no_dot : (x : ℕ) (xs : List ℕ) → has_dot (x ∷ xs) ≡ false → nat_eq x 46 ≡ false
first_no_dot x xs none = by_test (nat_eq x 46) refl
  where
    by_test : (p : Bool) → nat_eq x 46 ≡ p → nat_eq x 46 ≡ false
    by_test true is = let bad : true ≡ false = sym (ap (λ q. q || has_dot xs) is) ∙ none in cc bad
    by_test false is = is

rest_no_dot : (x : ℕ) (xs : List ℕ) → has_dot (x ∷ xs) ≡ false → has_dot xs ≡ false
rest_no_dot x xs none = sym (ap (λ q. q || has_dot xs) (first_no_dot x xs none)) ∙ none

end_no_dot : (n : ℕ) (text : List ℕ) → has_dot text ≡ false → has_dot (drop n text) ≡ false
end_no_dot zero text none = none
end_no_dot (suc n) [] none = refl
end_no_dot (suc n) (x ∷ xs) none = end_no_dot n xs (rest_no_dot x xs none)

not_dot : (x : ℕ) → nat_eq x 46 ≡ false → nat_eq 46 x ≡ false
not_dot x is = grind (arith, nat_tests, is)

begins_otherwise : (part text : List ℕ) → has_dot text ≡ false → pointwise nat_eq (46 ∷ part) text ≡ false
begins_otherwise part [] none = refl
begins_otherwise part (x ∷ xs) none = ap (λ q. q && pointwise nat_eq part xs) (not_dot x (first_no_dot x xs none))

not_empty : (n : ℕ) → not (suc n == 0) ≡ true
not_empty n = grind (arith, nat_tests)

-- so a piece is only to have a byte
plain_piece : (piece : List ℕ) → has_dot piece ≡ false → is_piece piece ≡ has_byte piece
plain_piece [] none = refl
plain_piece (x ∷ xs) none =
    let head : nat_eq 46 x ≡ false = not_dot x (first_no_dot x xs none) in
    let end : ends_with nat_eq (x ∷ xs) (codes ".lock") ≡ false = begins_otherwise (codes "lock") (drop (length (x ∷ xs) - 5) (x ∷ xs)) (end_no_dot (length (x ∷ xs) - 5) (x ∷ xs) none) in
    ap (λ q. (q && not (nat_eq 46 x && true)) && not (ends_with nat_eq (x ∷ xs) (codes ".lock"))) (not_empty (length xs))
    ∙ ap (λ q. not (q && true) && not (ends_with nat_eq (x ∷ xs) (codes ".lock"))) head
    ∙ ap not end
    ∙ sym (not_empty (length xs))

abbrev have_no_dot : List (List ℕ) → Bool
have_no_dot ps = list_all (λ p. not (has_dot p)) ps

onto_no_dot : (x : ℕ) (ps : List (List ℕ)) → nat_eq x 46 ≡ false → have_no_dot ps ≡ true → have_no_dot (onto_first x ps) ≡ true
onto_no_dot x [] other none = ap (λ q. not (q || false) && true) other
onto_no_dot x (p ∷ ps) other none = ap (λ q. not (q || has_dot p) && have_no_dot ps) other ∙ none

pieces_no_dot : (text : List ℕ) → has_dot text ≡ false → have_no_dot (pieces text) ≡ true
pieces_no_dot [] none = refl
pieces_no_dot (x ∷ xs) none = by_slash (x == 47) refl (pieces_no_dot xs (rest_no_dot x xs none))
  where
    by_slash : (b : Bool) → (x == 47) ≡ b → have_no_dot (pieces xs) ≡ true → have_no_dot (pieces (x ∷ xs)) ≡ true
    by_slash true is later = ap (λ b. have_no_dot (cond b ([] ∷ pieces xs) (onto_first x (pieces xs)))) is ∙ later
    by_slash false is later = ap (λ b. have_no_dot (cond b ([] ∷ pieces xs) (onto_first x (pieces xs)))) is ∙ onto_no_dot x (pieces xs) (first_no_dot x xs none) later

plain_pieces : (ps : List (List ℕ)) → have_no_dot ps ≡ true → list_all is_piece ps ≡ list_all has_byte ps
plain_pieces [] none = refl
plain_pieces (p ∷ ps) none = by_dot (has_dot p) refl (plain_pieces ps)
  where
    by_dot : (b : Bool) → has_dot p ≡ b → (have_no_dot ps ≡ true → list_all is_piece ps ≡ list_all has_byte ps) → list_all is_piece (p ∷ ps) ≡ list_all has_byte (p ∷ ps)
    by_dot true is later = let bad : false ≡ true = sym (ap (λ q. not q && have_no_dot ps) is) ∙ none in cc bad
    by_dot false is later =
        let others : have_no_dot ps ≡ true = sym (ap (λ q. not q && have_no_dot ps) is) ∙ none in
        ap (λ q. q && list_all is_piece ps) (plain_piece p is) ∙ ap (λ q. has_byte p && q) (later others)

-- the pieces behind the first
abbrev further : List (List ℕ) → List (List ℕ)
further [] = []
further (p ∷ ps) = ps

-- no slash ends the text, and none stands before another
abbrev parts_well : List ℕ → Bool
parts_well text = not (ends_with nat_eq text (codes "/")) && not (occurs (codes "//") text)

abbrev begins_well : List ℕ → Bool
begins_well text = not (length text == 0) && not (starts_with nat_eq text (codes "/"))

onto_all : (x : ℕ) (ps : List (List ℕ)) → list_all has_byte (onto_first x ps) ≡ list_all has_byte (further ps)
onto_all x [] = ap (λ q. q && true) (not_empty 0)
onto_all x (p ∷ ps) = ap (λ q. q && list_all has_byte ps) (not_empty (length p))

onto_further : (x : ℕ) (ps : List (List ℕ)) → list_all has_byte (further (onto_first x ps)) ≡ list_all has_byte (further ps)
onto_further x [] = refl
onto_further x (p ∷ ps) = refl

both_slashes : (y e o : Bool) → (not (y && true) && (not e && not o)) ≡ (not e && not ((y && true) || o))
both_slashes true true o = refl
both_slashes true false o = refl
both_slashes false e o = refl

slash_first : (x : ℕ) → (x == 47) ≡ true → nat_eq 47 x ≡ true
slash_first x is = grind (arith, nat_tests, is)

slash_not : (x : ℕ) → (x == 47) ≡ false → nat_eq 47 x ≡ false
slash_not x is = grind (arith, nat_tests, is)

ends_same : (x y : ℕ) (ys : List ℕ) → ends_with nat_eq (x ∷ y ∷ ys) (codes "/") ≡ ends_with nat_eq (y ∷ ys) (codes "/")
ends_same x y ys =
    let longer : length (x ∷ y ∷ ys) - 1 ≡ suc (length ys) = omega (arith) in
    let shorter : length (y ∷ ys) - 1 ≡ length ys = omega (arith) in
    ap (λ n. pointwise nat_eq (codes "/") (drop n (x ∷ y ∷ ys))) longer ∙ sym (ap (λ n. pointwise nat_eq (codes "/") (drop n (y ∷ ys))) shorter)

-- each piece has a byte where the text begins and parts well; each behind the first where it parts well
all_have : (text : List ℕ) → list_all has_byte (further (pieces text)) ≡ parts_well text → list_all has_byte (pieces text) ≡ (begins_well text && parts_well text)
all_have [] parts = refl
all_have (x ∷ xs) parts = by_slash (x == 47) refl
  where
    by_slash : (b : Bool) → (x == 47) ≡ b → list_all has_byte (pieces (x ∷ xs)) ≡ (begins_well (x ∷ xs) && parts_well (x ∷ xs))
    by_slash true is =
        ap (λ b. list_all has_byte (cond b ([] ∷ pieces xs) (onto_first x (pieces xs)))) is
        ∙ sym (ap (λ q. (q && not (nat_eq 47 x && true)) && parts_well (x ∷ xs)) (not_empty (length xs)) ∙ ap (λ q. not (q && true) && parts_well (x ∷ xs)) (slash_first x is))
    by_slash false is =
        ap (λ b. list_all has_byte (cond b ([] ∷ pieces xs) (onto_first x (pieces xs)))) is
        ∙ onto_all x (pieces xs)
        ∙ sym (ap (λ b. list_all has_byte (further (cond b ([] ∷ pieces xs) (onto_first x (pieces xs))))) is ∙ onto_further x (pieces xs))
        ∙ parts
        ∙ sym (ap (λ q. (q && not (nat_eq 47 x && true)) && parts_well (x ∷ xs)) (not_empty (length xs)) ∙ ap (λ q. not (q && true) && parts_well (x ∷ xs)) (slash_not x is))

further_have : (text : List ℕ) → list_all has_byte (further (pieces text)) ≡ parts_well text
further_have [] = refl
further_have (x ∷ []) = by_slash (x == 47) refl
  where
    by_slash : (b : Bool) → (x == 47) ≡ b → list_all has_byte (further (pieces (x ∷ []))) ≡ parts_well (x ∷ [])
    by_slash true is =
        ap (λ b. list_all has_byte (further (cond b ([] ∷ pieces []) (onto_first x (pieces []))))) is
        ∙ sym (ap (λ q. not (q && true) && not (occurs (codes "//") (x ∷ []))) (slash_first x is))
    by_slash false is =
        ap (λ b. list_all has_byte (further (cond b ([] ∷ pieces []) (onto_first x (pieces []))))) is
        ∙ sym (ap (λ q. not (q && true) && not ((q && false) || false)) (slash_not x is))
further_have (x ∷ y ∷ ys) = by_slash (x == 47) refl (further_have (y ∷ ys))
  where
    by_slash : (b : Bool) → (x == 47) ≡ b → list_all has_byte (further (pieces (y ∷ ys))) ≡ parts_well (y ∷ ys) → list_all has_byte (further (pieces (x ∷ y ∷ ys))) ≡ parts_well (x ∷ y ∷ ys)
    by_slash true is later =
        ap (λ b. list_all has_byte (further (cond b ([] ∷ pieces (y ∷ ys)) (onto_first x (pieces (y ∷ ys)))))) is
        ∙ all_have (y ∷ ys) later
        ∙ ap (λ q. (q && not (nat_eq 47 y && true)) && parts_well (y ∷ ys)) (not_empty (length ys))
        ∙ both_slashes (nat_eq 47 y) (ends_with nat_eq (y ∷ ys) (codes "/")) (occurs (codes "//") (y ∷ ys))
        ∙ sym (ap (λ e. not e && not ((nat_eq 47 x && (nat_eq 47 y && true)) || occurs (codes "//") (y ∷ ys))) (ends_same x y ys) ∙ ap (λ q. not (ends_with nat_eq (y ∷ ys) (codes "/")) && not ((q && (nat_eq 47 y && true)) || occurs (codes "//") (y ∷ ys))) (slash_first x is))
    by_slash false is later =
        ap (λ b. list_all has_byte (further (cond b ([] ∷ pieces (y ∷ ys)) (onto_first x (pieces (y ∷ ys)))))) is
        ∙ onto_further x (pieces (y ∷ ys))
        ∙ later
        ∙ sym (ap (λ e. not e && not ((nat_eq 47 x && (nat_eq 47 y && true)) || occurs (codes "//") (y ∷ ys))) (ends_same x y ys) ∙ ap (λ q. not (ends_with nat_eq (y ∷ ys) (codes "/")) && not ((q && (nat_eq 47 y && true)) || occurs (codes "//") (y ∷ ys))) (slash_not x is))

-- the pieces of a text without a dot
pub plain_text : (text : List ℕ) → has_dot text ≡ false → list_all is_piece (pieces text) ≡ (begins_well text && parts_well text)
plain_text text none = plain_pieces (pieces text) (pieces_no_dot text none) ∙ all_have text (further_have text)
