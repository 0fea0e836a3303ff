-- Words of a line: which may be where, and the places of those that may not. A place is an offset in the
-- cleaned line.
use Rattle.std.specs.Prelude.{ℕ, Bool, false, not, ◌&&◌, ◌||◌, ◌+◌, ◌==◌, nat_lt, List, [], ◌∷◌, length, codes, Option, Some, None, if◌then◌else◌}
use Rattle.std.specs.List.{list_any}
use Rattle.std.specs.Str.{bytes_eq}
use Rattle.conf_lex.specs.Names.{is_user_name, is_role}
use Rattle.conf_lex.specs.declared.words.TheConstants.{MAX_WORD}
use Rattle.conf_lex.specs.declared.words.Use.{Use}
use Rattle.conf_lex.specs.declared.words.Use.TheVariants.{Anything, Repository, Member, Refex, User}

abbrev pub is_equals : List ℕ → Bool
is_equals word = bytes_eq word (codes "=")

abbrev pub begins_with_at : List ℕ → Bool
begins_with_at [] = false
begins_with_at (b ∷ bs) = b == 64

-- `@` with a name, `@all` too
abbrev pub is_group_word : List ℕ → Bool
is_group_word word = begins_with_at word && nat_lt 1 (length word)

-- a user's name, one of the words for users by what they are to a repository, or a group
abbrev pub is_user_word : List ℕ → Bool
is_user_word word = is_user_name word || is_role word || is_group_word word

-- what a word of a line may not be, by what it is for
abbrev pub is_bad : Use → List ℕ → Bool
is_bad Anything word = nat_lt MAX_WORD (length word)
is_bad Repository word = is_equals word
is_bad Member word = is_equals word || bytes_eq word (codes "@all")
is_bad Refex word = bytes_eq word (codes "@all")
is_bad User word = not (is_user_word word)

-- the place of the first bad word, which is the least; the first of the words is at the place that is given
abbrev pub first_bad : Use → ℕ → List (List ℕ) → Option ℕ
first_bad for at [] = None
first_bad for at (w ∷ ws) = if is_bad for w then Some at else first_bad for (at + length w + 1) ws

-- the place of a word that follows these words
abbrev pub place_after : List (List ℕ) → ℕ
place_after [] = 0
place_after (w ∷ ws) = length w + 1 + place_after ws

abbrev pub has_equals : List (List ℕ) → Bool
has_equals ws = list_any is_equals ws

-- the words before the first `=`, and those after it
abbrev pub before_equals : List (List ℕ) → List (List ℕ)
before_equals [] = []
before_equals (w ∷ ws) = if is_equals w then [] else w ∷ before_equals ws

abbrev pub after_equals : List (List ℕ) → List (List ℕ)
after_equals [] = []
after_equals (w ∷ ws) = if is_equals w then ws else after_equals ws
