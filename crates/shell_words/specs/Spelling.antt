-- How commands are spelled, and that the words that spell one are read as it, and no others.
use Rattle.std.specs.Prelude.{◌≡◌, ◌⊎◌, ℕ, List, [], ◌∷◌, ◌++◌, codes, decimal, Some}
use Rattle.shell_words.specs.Commands.{IsWithinLimits, asked}
use Rattle.shell_words.specs.declared.commands.Transport.{Transport}
use Rattle.shell_words.specs.declared.commands.Transport.TheVariants.{Git, Http}
use Rattle.shell_words.specs.declared.commands.Asked.{Asked}
use Rattle.shell_words.specs.declared.commands.Asked.TheVariants.{Script, Serve, Check, Load, Keep, Access}

-- an option is spelled by two words or by one: `FLAG VALUE` or `FLAG=VALUE`
abbrev pub SpellsOption : List ℕ → List ℕ → List (List ℕ) → Type 0
SpellsOption flag value words = (words ≡ flag ∷ value ∷ []) ⊎ (words ≡ (flag ++ (codes "=" ++ value)) ∷ [])

-- three parts, one after the other in some order
abbrev pub IsInSomeOrder : List (List ℕ) → List (List ℕ) → List (List ℕ) → List (List ℕ) → Type 0
IsInSomeOrder a b c words =
    (words ≡ a ++ (b ++ c)) ⊎ (words ≡ a ++ (c ++ b)) ⊎ (words ≡ b ++ (a ++ c)) ⊎ (words ≡ b ++ (c ++ a)) ⊎ (words ≡ c ++ (a ++ b)) ⊎ (words ≡ c ++ (b ++ a))

-- the word of a command that serves
abbrev pub serve_word : Transport → List ℕ
serve_word Git = codes "serve"
serve_word Http = codes "http"

-- what is behind it
pub record SpellsServe (admin : List ℕ) (workers sessions : ℕ) (words : List (List ℕ)) : Type 0 where
  pub admin_words : List (List ℕ)
  pub worker_words : List (List ℕ)
  pub session_words : List (List ℕ)
  pub admin_is : SpellsOption (codes "--admin") admin admin_words
  pub workers_is : SpellsOption (codes "--workers") (decimal workers) worker_words
  pub sessions_is : SpellsOption (codes "--sessions") (decimal sessions) session_words
  pub ordered : IsInSomeOrder admin_words worker_words session_words words

-- the words behind a command's own
abbrev pub Follow : List ℕ → List (List ℕ) → (List (List ℕ) → Type 0) → Type 0
Follow verb words Rest = (rest : List (List ℕ)) × (words ≡ verb ∷ rest) × Rest rest

-- how a command is spelled
abbrev pub IsSpelledBy : Asked → List (List ℕ) → Type 0
IsSpelledBy (Script admin) words = Follow (codes "script") words (SpellsOption (codes "--admin") admin)
IsSpelledBy (Serve transport admin workers sessions) words = Follow (serve_word transport) words (SpellsServe admin workers sessions)
IsSpelledBy Check words = words ≡ codes "check" ∷ []
IsSpelledBy (Load count start) words = words ≡ codes "load" ∷ decimal count ∷ decimal start ∷ []
IsSpelledBy (Keep admin) words = Follow (codes "keep") words (SpellsOption (codes "--admin") admin)
IsSpelledBy Access words = words ≡ codes "access" ∷ []

-- these words spell the command, whose values are within their limits
abbrev pub Spells : Asked → List (List ℕ) → Type 0
Spells command words = IsWithinLimits command × IsSpelledBy command words

-- The words that spell a command are read as it.
abbrev pub SpelledIsRead : Type 0
SpelledIsRead = (command : Asked) (words : List (List ℕ)) → Spells command words → asked words ≡ Some command

-- No other words are read as it.
abbrev pub ReadIsSpelled : Type 0
ReadIsSpelled = (command : Asked) (words : List (List ℕ)) → asked words ≡ Some command → Spells command words
