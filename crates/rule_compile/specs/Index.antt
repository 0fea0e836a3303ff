-- The index from the name of a repository to the words that may cover it. It serves private functions alone.
use Rattle.std.specs.Prelude.{ℕ, suc, ◌≡◌, List, [], ◌∷◌, ◌++◌, Bool, if◌then◌else◌, map, Option, Some, None, codes}
use Rattle.std.specs.List.{flat_map}
use Rattle.std.specs.Str.{bytes_eq}
use Rattle.std.specs.HashMap.{HashMap, get}
use Rattle.rule_compile.specs.Patterns.{Patterns}
use Rattle.rule_compile.specs.Covering.{covers_repo}
use Rattle.rule_compile.specs.declared.rule.OptionLine.{OptionLine}
use Rattle.rule_compile.specs.declared.rule.RepoWord.{RepoWord}
use Rattle.rule_compile.specs.declared.rule.RepoWord.TheVariants as repo
use Rattle.rule_compile.specs.declared.rule.Rule.{Rule}
use Rattle.rule_compile.specs.declared.salt.Salt.{Salt}

-- ---- words by their numbers, which count from 1

abbrev pub numbers_from : (RepoWord → Bool) → ℕ → List RepoWord → List ℕ
numbers_from test n [] = []
numbers_from test n (w ∷ ws) = if test w then n ∷ numbers_from test (suc n) ws else numbers_from test (suc n) ws

-- the numbers of the words that meet a test, in order
abbrev pub numbers : (RepoWord → Bool) → List RepoWord → List ℕ
numbers test words = numbers_from test 1 words

-- the text of a word that is a pattern
abbrev pub pattern_text : RepoWord → Option (List ℕ)
pattern_text (repo.Plain name) = None
pattern_text repo.All = None
pattern_text (repo.Pattern text) = Some text

abbrev pub or_nothing : Option (List ℕ) → List ℕ
or_nothing None = []
or_nothing (Some numbers) = numbers

-- the numbers that a table has at a name
abbrev pub numbers_at : HashMap (List ℕ) (List ℕ) Salt → List ℕ → List ℕ
numbers_at table name = or_nothing (get bytes_eq table name)

-- one number more, where it is for this name
abbrev pub with_number : List ℕ → Bool → ℕ → List ℕ
with_number numbers here n = if here then numbers ++ n ∷ [] else numbers

-- the words of the rules
abbrev pub word_of : Rule → RepoWord
word_of rule = rule.repo

abbrev pub words_of_rules : List Rule → List RepoWord
words_of_rules rules = map word_of rules

-- the texts of the refexes of the rules
abbrev pub refex_of : Rule → List ℕ
refex_of rule = rule.refex

abbrev pub refexes_of_rules : List Rule → List (List ℕ)
refexes_of_rules rules = map refex_of rules

-- each rule bears its number, which counts from 1
abbrev pub AreNumberedFrom : ℕ → List Rule → Type 0
AreNumberedFrom n [] = Unit {0}
AreNumberedFrom n (r ∷ rs) = (r.seq ≡ n) × AreNumberedFrom (suc n) rs

abbrev pub AreNumbered : List Rule → Type 0
AreNumbered rules = AreNumberedFrom 1 rules

-- ---- an option, word by word

-- a word of a line that sets it, with what the line sets it to
pub record OptionWord : Type 0 where
  pub word : RepoWord
  pub on : Bool

abbrev pub option_word : Bool → RepoWord → OptionWord
option_word on word = record { word = word; on = on }

-- the words of a line, each with whether the line sets its option to `1`
abbrev pub words_of_line : OptionLine → List OptionWord
words_of_line line = map (option_word (bytes_eq line.value (codes "1"))) line.repos

abbrev pub option_words_of : List ℕ → OptionLine → List OptionWord
option_words_of key line = if bytes_eq line.key key then words_of_line line else []

-- the words of all lines that set the option of a key, in order
abbrev pub option_words : List ℕ → List OptionLine → List OptionWord
option_words key lines = flat_map (option_words_of key) lines

abbrev pub word_of_option : OptionWord → RepoWord
word_of_option d = d.word

abbrev pub words_of_option : List OptionWord → List RepoWord
words_of_option ds = map word_of_option ds

abbrev pub on_of_option : OptionWord → Bool
on_of_option d = d.on

abbrev pub ons_of : List OptionWord → List Bool
ons_of ds = map on_of_option ds

-- what the word sets the option to, where it covers the repository
abbrev pub set_by : Patterns → List ℕ → Option (List ℕ) → OptionWord → Option Bool
set_by patterns name creator d = if covers_repo patterns d.word name creator then Some d.on else None

-- what the last of the words that covers the repository sets
abbrev pub last_on : Patterns → List ℕ → Option (List ℕ) → Bool → List OptionWord → Bool
last_on patterns name creator so_far [] = so_far
last_on patterns name creator so_far (d ∷ ds) = last_on patterns name creator (if covers_repo patterns d.word name creator then d.on else so_far) ds
