-- The command that the words of a command line are.
use Rattle.std.specs.Prelude.{◌≡◌, ◌≤◌, ⊤, ℕ, List, [], ◌∷◌, codes, Bool, true, false, Option, Some, None, is_some, Result, Ok, Err, if◌then◌else◌, option_and_then}
use Rattle.std.specs.Option.{option_map}
use Rattle.std.specs.Str.{bytes_eq}
use Rattle.conf_lex.specs.Names.{is_user_name}
use Rattle.shell_words.specs.Numbers.{number_in}
use Rattle.shell_words.specs.Options.{Given, first_option}
use Rattle.shell_words.specs.declared.options.Flag.{Flag}
use Rattle.shell_words.specs.declared.options.Flag.TheVariants.{Admin, Workers, Sessions}
use Rattle.shell_words.specs.declared.commands.Asked.{Asked}
use Rattle.shell_words.specs.declared.commands.Asked.TheVariants.{Script, Serve, Check, Load, Keep, Access}
use Rattle.shell_words.specs.declared.commands.Transport.{Transport}
use Rattle.shell_words.specs.declared.commands.Transport.TheVariants.{Git, Http}
use Rattle.shell_words.specs.declared.commands.WordsFault.{WordsFault}
use Rattle.shell_words.specs.declared.commands.WordsFault.TheVariants.{Usage, NoMemory}

-- `check` has no further word
abbrev pub check_of : List (List ℕ) → Option Asked
check_of [] = Some Check
check_of (word ∷ rest) = None

-- `access` has no further word
abbrev pub access_of : List (List ℕ) → Option Asked
access_of [] = Some Access
access_of (word ∷ rest) = None

-- `load` by its two numbers
abbrev pub load_with : Option ℕ → Option ℕ → Option Asked
load_with (Some count) (Some start) = Some (Load count start)
load_with (Some count) None = None
load_with None start = None

-- `load N START`
abbrev pub load_of : List (List ℕ) → Option Asked
load_of [] = None
load_of (count ∷ []) = None
load_of (count ∷ start ∷ []) = load_with (number_in 1 5000 count) (number_in 0 4294967295 start)
load_of (count ∷ start ∷ more ∷ rest) = None

-- the user's name that an option `--admin` gives, which nothing is behind
abbrev pub admin_with : Flag → List ℕ → List (List ℕ) → Option (List ℕ)
admin_with Admin admin [] = if is_user_name admin then Some admin else None
admin_with Admin admin (word ∷ rest) = None
admin_with Workers value rest = None
admin_with Sessions value rest = None

-- what words say that are the option `--admin` alone
abbrev pub admin_of : List (List ℕ) → Option (List ℕ)
admin_of words = option_and_then (λ a. admin_with a.flag a.value a.rest) (first_option words)

-- `script` with the option `--admin`
abbrev pub script_of : List (List ℕ) → Option Asked
script_of words = option_map Script (admin_of words)

-- `keep` with the option `--admin`
abbrev pub keep_of : List (List ℕ) → Option Asked
keep_of words = option_map Keep (admin_of words)

abbrev pub is_flag : Flag → Flag → Bool
is_flag Admin Admin = true
is_flag Workers Workers = true
is_flag Sessions Sessions = true
is_flag wanted other = false

-- the value of the option with this flag, among three
abbrev pub value_of : Flag → Given → Given → Given → Option (List ℕ)
value_of flag a b c =
    if is_flag flag a.flag then Some a.value
    else if is_flag flag b.flag then Some b.value
    else if is_flag flag c.flag then Some c.value
    else None

-- `serve`, or `http`, by the admin and the two numbers
abbrev pub serve_with : Transport → List ℕ → Option ℕ → Option ℕ → Option Asked
serve_with transport admin (Some workers) (Some sessions) = if is_user_name admin then Some (Serve transport admin workers sessions) else None
serve_with transport admin (Some workers) None = None
serve_with transport admin None sessions = None

-- the same by the values of the three options, where each is given
abbrev pub serve_by : Transport → Option (List ℕ) → Option (List ℕ) → Option (List ℕ) → Option Asked
serve_by transport (Some admin) (Some workers) (Some sessions) = serve_with transport admin (number_in 1 8 workers) (number_in 1 1000000 sessions)
serve_by transport (Some admin) (Some workers) None = None
serve_by transport (Some admin) None sessions = None
serve_by transport None workers sessions = None

-- the same by three options, the last of which nothing is behind
abbrev pub serve_of_three : Transport → Given → Given → Given → List (List ℕ) → Option Asked
serve_of_three transport a b c [] = serve_by transport (value_of Admin a b c) (value_of Workers a b c) (value_of Sessions a b c)
serve_of_three transport a b c (word ∷ rest) = None

-- the options `--admin`, `--workers` and `--sessions`, each once, in any order
abbrev pub serve_of : Transport → List (List ℕ) → Option Asked
serve_of transport words =
    option_and_then (λ a. option_and_then (λ b. option_and_then (λ c. serve_of_three transport a b c c.rest) (first_option b.rest)) (first_option a.rest)) (first_option words)

-- the command that the words are, where they are one
unfoldable pub asked : List (List ℕ) → Option Asked
asked [] = None
asked (verb ∷ rest) =
    if bytes_eq verb (codes "script") then script_of rest
    else if bytes_eq verb (codes "serve") then serve_of Git rest
    else if bytes_eq verb (codes "http") then serve_of Http rest
    else if bytes_eq verb (codes "check") then check_of rest
    else if bytes_eq verb (codes "load") then load_of rest
    else if bytes_eq verb (codes "keep") then keep_of rest
    else if bytes_eq verb (codes "access") then access_of rest
    else None

-- the values of a command are within their limits
abbrev pub IsWithinLimits : Asked → Type 0
IsWithinLimits (Script admin) = is_user_name admin ≡ true
IsWithinLimits (Serve transport admin workers sessions) = (is_user_name admin ≡ true) × (1 ≤ workers) × (workers ≤ 8) × (1 ≤ sessions) × (sessions ≤ 1000000)
IsWithinLimits Check = ⊤
IsWithinLimits (Load count start) = (1 ≤ count) × (count ≤ 5000) × (start ≤ 4294967295)
IsWithinLimits (Keep admin) = is_user_name admin ≡ true
IsWithinLimits Access = ⊤

-- What the answer of a reading says: what was found; that nothing was; or that something was, and that memory
-- ran out.
abbrev pub Reads : {X : Type 0} → Option X → Result X WordsFault → Type 0
Reads found (Ok value) = found ≡ Some value
Reads found (Err Usage) = found ≡ None
Reads found (Err NoMemory) = is_some found ≡ true

-- the text of a fault
abbrev pub fault_text : WordsFault → List ℕ
fault_text Usage = codes "the words are no command"
fault_text NoMemory = codes "out of memory"
