-- The names that a ref may have: those that git-check-ref-format(1) admits, below `refs/`, with three pieces
-- at least and not too long. The numbers are that page's.
use Rattle.std.specs.Prelude.{ℕ, Bool, false, ◌&&◌, ◌||◌, ◌==◌, not, nat_eq, nat_le, nat_lt, List, [], ◌∷◌, length, codes}
use Rattle.std.specs.List.{list_all, list_any, slice_split, starts_with, ends_with}

-- what stands between the slashes
abbrev pub pieces : List ℕ → List (List ℕ)
pieces name = slice_split (λ c. c == 47) name

-- 1 and 6: a piece has a byte, doesn't begin with a dot and doesn't end with `.lock`
abbrev pub is_piece : List ℕ → Bool
is_piece piece = not (length piece == 0) && not (starts_with nat_eq piece (codes ".")) && not (ends_with nat_eq piece (codes ".lock"))

-- 4, 5 and 10: no control character, no space and none of ~ ^ : ? * [ \
abbrev pub is_ref_byte : ℕ → Bool
is_ref_byte c = nat_lt 32 c && not (c == 127) && not (list_any (λ d. d == c) (codes "~^:?*[\\"))

-- the part stands somewhere in the text: some end of the text begins with it
abbrev pub occurs : List ℕ → List ℕ → Bool
occurs part [] = false
occurs part (c ∷ rest) = starts_with nat_eq (c ∷ rest) part || occurs part rest

-- the rule; 3, 8 and 7 are its last three lines
abbrev pub is_ref_name : List ℕ → Bool
is_ref_name name =
    nat_le (length name) 1024
    && starts_with nat_eq name (codes "refs/")
    && nat_le 3 (length (pieces name))
    && list_all is_piece (pieces name)
    && list_all is_ref_byte name
    && not (occurs (codes "..") name)
    && not (occurs (codes "@{") name)
    && not (ends_with nat_eq name (codes "."))
