-- The lines that a conf is printed as.
use Rattle.std.specs.Prelude.{ℕ, List, [], ◌∷◌, ◌++◌, length, codes, decimal}
use Rattle.std.specs.List.{flat_map}
use Rattle.conf_lex.specs.Permissions.{perm_text}
use Rattle.rule_compile.specs.Flat.{Flat}
use Rattle.rule_compile.specs.Faults.{warning_text}
use Rattle.rule_compile.specs.declared.rule.RepoWord.{RepoWord}
use Rattle.rule_compile.specs.declared.rule.RepoWord.TheVariants as repo
use Rattle.rule_compile.specs.declared.rule.Rule.{Rule}
use Rattle.rule_compile.specs.declared.rule.UserWord.{UserWord}
use Rattle.rule_compile.specs.declared.rule.UserWord.TheVariants as user
use Rattle.rule_compile.specs.declared.warning.Warning.{Warning}

-- a repository's name, `@all`, or the text of a pattern
abbrev pub repo_text : RepoWord → List ℕ
repo_text (repo.Plain name) = name
repo_text repo.All = codes "@all"
repo_text (repo.Pattern text) = text

-- a user's name, a group's name with its `@`, `@all`, `CREATOR`, or a role
abbrev pub user_text : UserWord → List ℕ
user_text (user.Name name) = name
user_text (user.Group name members) = name
user_text user.All = codes "@all"
user_text user.Creator = codes "CREATOR"
user_text (user.Role role) = role

-- a word, and a space
abbrev pub spaced : List ℕ → List ℕ
spaced word = word ++ 32 ∷ []

-- `NUMBER REPO PERMISSION REFEX USER FILE LINE`, and a line feed
unfoldable pub rule_line : Rule → List ℕ
rule_line rule =
    spaced (decimal rule.seq) ++ spaced (repo_text rule.repo) ++ spaced (perm_text rule.perm) ++ spaced rule.refex
    ++ spaced (user_text rule.user) ++ spaced rule.file ++ decimal rule.line ++ 10 ∷ []

-- a warning's text, and a line feed
unfoldable pub warning_line : Warning → List ℕ
warning_line warning = warning_text warning ++ 10 ∷ []

-- `ok N rules, M repositories`, and a line feed
unfoldable pub count_line : ℕ → ℕ → List ℕ
count_line rules repositories = codes "ok " ++ decimal rules ++ codes " rules, " ++ decimal repositories ++ codes " repositories\n"

-- a line for each rule, a line for each warning, and how many rules and plain repositories there are
unfoldable pub flat_text : Flat → List ℕ
flat_text conf = flat_map rule_line conf.rules ++ flat_map warning_line conf.warnings ++ count_line (length conf.rules) (length conf.plain)
