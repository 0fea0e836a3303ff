-- The names that a user and a repository may have.
use Rattle.std.specs.Prelude.{ℕ, Bool, false, ◌&&◌, ◌||◌, ◌==◌, not, nat_eq, nat_le, List, [], ◌∷◌, length, codes}
use Rattle.std.specs.List.{list_all, list_any, slice_split, starts_with, ends_with}
use Rattle.std.specs.Str.{bytes_eq}
use Rattle.std.specs.Char.{is_ascii_alphanumeric}
use Rattle.conf_lex.specs.declared.user_name.TheConstants.{MAX_USER_NAME}
use Rattle.conf_lex.specs.declared.repo_name.TheConstants.{MAX_REPO_NAME}

abbrev pub begins_with_letter_or_digit : List ℕ → Bool
begins_with_letter_or_digit [] = false
begins_with_letter_or_digit (c ∷ cs) = is_ascii_alphanumeric c

-- a letter, a digit or one of these
abbrev pub is_name_byte : List ℕ → ℕ → Bool
is_name_byte others c = is_ascii_alphanumeric c || list_any (λ d. d == c) others

-- the three words for users by what they are to a repository
abbrev pub is_role : List ℕ → Bool
is_role word = bytes_eq word (codes "CREATOR") || bytes_eq word (codes "READERS") || bytes_eq word (codes "WRITERS")

-- 1 to 64 bytes (`MAX_USER_NAME`); a letter or digit first; the others letters, digits or one of `-._@+`;
-- none of the three words
abbrev pub is_user_name : List ℕ → Bool
is_user_name name =
    nat_le 1 (length name)
    && nat_le (length name) MAX_USER_NAME
    && begins_with_letter_or_digit name
    && list_all (is_name_byte (codes "-._@+")) name
    && not (is_role name)

-- the parts between the slashes
abbrev pub name_pieces : List ℕ → List (List ℕ)
name_pieces name = slice_split (λ c. c == 47) name

-- a piece isn't empty and doesn't begin with a dot
abbrev pub is_piece : List ℕ → Bool
is_piece piece = not (length piece == 0) && not (starts_with nat_eq piece (codes "."))

-- the part occurs in the text: some end of the text begins with it
abbrev pub occurs : List ℕ → List ℕ → Bool
occurs part [] = false
occurs part (c ∷ rest) = starts_with nat_eq (c ∷ rest) part || occurs part rest

-- 1 to 200 bytes (`MAX_REPO_NAME`); a letter or digit first; the others letters, digits or one of `-._@/+`;
-- each piece is one; no `..`, no `CREATOR`, and no `.git` at the end
abbrev pub is_repo_name : List ℕ → Bool
is_repo_name name =
    nat_le 1 (length name)
    && nat_le (length name) MAX_REPO_NAME
    && begins_with_letter_or_digit name
    && list_all (is_name_byte (codes "-._@/+")) name
    && list_all is_piece (name_pieces name)
    && not (occurs (codes "..") name)
    && not (occurs (codes "CREATOR") name)
    && not (ends_with nat_eq name (codes ".git"))
