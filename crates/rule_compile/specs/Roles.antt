-- Which words are roles for a repository.
use Rattle.std.specs.Prelude.{ℕ, List, [], ◌∷◌, ◌++◌, Bool, false, not, ◌&&◌, ◌||◌, ◌==◌, nat_le, length, codes, Option}
use Rattle.std.specs.List.{list_all, list_any}
use Rattle.std.specs.Char.{is_ascii_digit, is_ascii_uppercase}
use Rattle.std.specs.Str.{bytes_eq}
use Rattle.rule_compile.specs.Covering.{is_in_force}
use Rattle.rule_compile.specs.Patterns.{Patterns}
use Rattle.rule_compile.specs.declared.limits.TheConstants.{MAX_ROLE_NAME}
use Rattle.rule_compile.specs.declared.rule.OptionLine.{OptionLine}

-- the two roles that are declared for every repository
abbrev pub is_common_role : List ℕ → Bool
is_common_role word = bytes_eq word (codes "READERS") || bytes_eq word (codes "WRITERS")

-- an upper-case letter, a digit or `_`
abbrev pub is_role_byte : ℕ → Bool
is_role_byte c = is_ascii_uppercase c || is_ascii_digit c || c == 95

abbrev pub begins_with_uppercase : List ℕ → Bool
begins_with_uppercase [] = false
begins_with_uppercase (c ∷ cs) = is_ascii_uppercase c

-- What a role's name may be: 1 to 64 bytes (`MAX_ROLE_NAME`); upper-case letters, digits and `_`, a letter
-- first; not `CREATOR`.
abbrev pub is_role_name : List ℕ → Bool
is_role_name word =
    nat_le (length word) MAX_ROLE_NAME
    && begins_with_uppercase word
    && list_all is_role_byte word
    && not (bytes_eq word (codes "CREATOR"))

-- the key of the option that declares a role
abbrev pub role_key : List ℕ → List ℕ
role_key word = codes "role." ++ word

-- A word is a role for a repository where it is one of the two, or a role's name whose option is in force
-- there: the last line that sets it for the repository sets it to `1`.
abbrev pub declares : Patterns → List OptionLine → List ℕ → List ℕ → Option (List ℕ) → Bool
declares patterns lines word name creator = is_common_role word || (is_role_name word && is_in_force patterns lines (role_key word) name creator)

-- some line sets the option of a role's name, whichever repositories it is for
abbrev pub is_mentioned : List OptionLine → List ℕ → Bool
is_mentioned lines word = is_role_name word && list_any (λ line. bytes_eq line.key (role_key word)) lines
