-- Which repositories a rule and an option are for.
use Rattle.std.specs.Prelude.{ℕ, List, [], ◌∷◌, Bool, true, false, not, ◌&&◌, ◌||◌, if◌then◌else◌, filter, codes, Option, Some, None}
use Rattle.std.specs.List.{last_or}
use Rattle.std.specs.Str.{bytes_eq}
use Rattle.rule_compile.specs.Patterns.{Patterns}
use Rattle.rule_compile.specs.declared.rule.OptionLine.{OptionLine}
use Rattle.rule_compile.specs.declared.rule.RepoWord.{RepoWord}
use Rattle.rule_compile.specs.declared.rule.RepoWord.TheVariants as repo
use Rattle.rule_compile.specs.declared.rule.Rule.{Rule}

-- A pattern covers the names that it takes, `CREATOR` standing for the creator's name. One with `CREATOR`
-- covers nothing that nobody created.
abbrev pub pattern_covers : Patterns → List ℕ → List ℕ → Option (List ℕ) → Bool
pattern_covers patterns text name None = not (patterns.has_hole text) && patterns.takes text [] name
pattern_covers patterns text name (Some creator) = patterns.takes text creator name

-- what a word covers: a plain name the repository of that name, `@all` every one, and a pattern what it takes
abbrev pub covers_repo : Patterns → RepoWord → List ℕ → Option (List ℕ) → Bool
covers_repo patterns (repo.Plain plain) name creator = bytes_eq plain name
covers_repo patterns repo.All name creator = true
covers_repo patterns (repo.Pattern text) name creator = pattern_covers patterns text name creator

abbrev pub some_covers : Patterns → List RepoWord → List ℕ → Option (List ℕ) → Bool
some_covers patterns [] name creator = false
some_covers patterns (w ∷ ws) name creator = covers_repo patterns w name creator || some_covers patterns ws name creator

-- ---- the kinds of words

abbrev pub is_plain_word : List ℕ → RepoWord → Bool
is_plain_word name (repo.Plain plain) = bytes_eq plain name
is_plain_word name repo.All = false
is_plain_word name (repo.Pattern text) = false

abbrev pub is_all_word : RepoWord → Bool
is_all_word (repo.Plain plain) = false
is_all_word repo.All = true
is_all_word (repo.Pattern text) = false

abbrev pub is_pattern_word : RepoWord → Bool
is_pattern_word (repo.Plain plain) = false
is_pattern_word repo.All = false
is_pattern_word (repo.Pattern text) = true

-- a word that may cover the name: that plain name, `@all`, or a pattern
abbrev pub may_cover : List ℕ → RepoWord → Bool
may_cover name (repo.Plain plain) = bytes_eq plain name
may_cover name repo.All = true
may_cover name (repo.Pattern text) = true

-- the rules whose word may cover the name, in the order of their numbers
abbrev pub rules_for : List Rule → List ℕ → List Rule
rules_for rules name = filter (λ rule. may_cover name rule.repo) rules

-- the numbers of the rules whose word meets a test, in order
abbrev pub numbers_of : (RepoWord → Bool) → List Rule → List ℕ
numbers_of test [] = []
numbers_of test (r ∷ rs) = if test r.repo then r.seq ∷ numbers_of test rs else numbers_of test rs

-- ---- options

-- the line sets the option for the repository
abbrev pub sets : Patterns → List ℕ → List ℕ → Option (List ℕ) → OptionLine → Bool
sets patterns key name creator line = bytes_eq line.key key && some_covers patterns line.repos name creator

-- a line that sets an option to `1`; where no line sets it, it isn't on
abbrev pub is_on : Option OptionLine → Bool
is_on None = false
is_on (Some line) = bytes_eq line.value (codes "1")

-- the option is in force: the last line that sets it for the repository sets it to `1`
abbrev pub is_in_force : Patterns → List OptionLine → List ℕ → List ℕ → Option (List ℕ) → Bool
is_in_force patterns lines key name creator = is_on (last_or None (filter (sets patterns key name creator) lines))

abbrev pub deny_rules : Patterns → List OptionLine → List ℕ → Option (List ℕ) → Bool
deny_rules patterns lines name creator = is_in_force patterns lines (codes "deny-rules") name creator
