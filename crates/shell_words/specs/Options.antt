-- Options of a command line: a flag and a value.
use Rattle.std.specs.Prelude.{ℕ, List, [], ◌∷◌, take, drop, length, codes, Option, Some, None, if◌then◌else◌, ◌==◌, option_and_then}
use Rattle.std.specs.Option.{option_or}
use Rattle.std.specs.Str.{bytes_eq}
use Rattle.shell_words.specs.declared.options.Flag.{Flag}
use Rattle.shell_words.specs.declared.options.Flag.TheVariants.{Admin, Workers, Sessions}

-- how a flag is written
abbrev pub flag_text : Flag → List ℕ
flag_text Admin = codes "--admin"
flag_text Workers = codes "--workers"
flag_text Sessions = codes "--sessions"

-- an option, and the words behind it
pub record Given : Type 0 where
  pub flag : Flag
  pub value : List ℕ
  pub rest : List (List ℕ)

-- what follows a prefix of a text
abbrev pub after_prefix : List ℕ → List ℕ → Option (List ℕ)
after_prefix prefix text = if bytes_eq (take (length prefix) text) prefix then Some (drop (length prefix) text) else None

-- the option by what follows its flag in a word: nothing, and the value is the next word; or `=` (61) and the
-- value
abbrev pub given_after : Flag → List ℕ → List (List ℕ) → Option Given
given_after flag [] [] = None
given_after flag [] (value ∷ rest) = Some (record { flag = flag; value = value; rest = rest })
given_after flag (c ∷ value) rest = if c == 61 then Some (record { flag = flag; value = value; rest = rest }) else None

-- the option with this flag at the front of some words, as `FLAG VALUE` or as `FLAG=VALUE`
abbrev pub option_at : Flag → List (List ℕ) → Option Given
option_at flag [] = None
option_at flag (word ∷ rest) = option_and_then (λ more. given_after flag more rest) (after_prefix (flag_text flag) word)

-- the option at the front of some words
abbrev pub first_option : List (List ℕ) → Option Given
first_option words = option_or (option_at Admin words) (option_or (option_at Workers words) (option_at Sessions words))
