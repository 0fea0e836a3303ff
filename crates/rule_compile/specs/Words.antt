-- What the words of a conf's lines stand for.
use Rattle.std.specs.Prelude.{ℕ, List, [], ◌∷◌, ◌++◌, Bool, true, false, not, ◌&&◌, ◌||◌, ◌==◌, if◌then◌else◌, nat_eq, map, drop, length, codes, Option, Some, None}
use Rattle.std.specs.List.{starts_with}
use Rattle.std.specs.Str.{bytes_eq}
use Rattle.conf_lex.specs.Names.{is_repo_name, is_user_name, occurs}
use Rattle.conf_lex.specs.RepoWords.{kind_of, repo_word}
use Rattle.conf_lex.specs.Words.{begins_with_at}
use Rattle.conf_lex.specs.declared.repo_words.RepoWordKind.{RepoWordKind}
use Rattle.conf_lex.specs.declared.repo_words.RepoWordKind.TheVariants as kind
use Rattle.conf_groups.specs.Groups.{members_before, members_in}
use Rattle.conf_groups.specs.declared.placed.Placed.{Placed}
use Rattle.conf_groups.specs.declared.placed.Scope.{Scope}
use Rattle.conf_groups.specs.declared.placed.Scope.TheVariants.{Main, Sub}
use Rattle.rule_compile.specs.Patterns.{Patterns}
use Rattle.rule_compile.specs.declared.rule.RepoWord.{RepoWord}
use Rattle.rule_compile.specs.declared.rule.RepoWord.TheVariants as repo
use Rattle.rule_compile.specs.declared.rule.UserWord.{UserWord}
use Rattle.rule_compile.specs.declared.rule.UserWord.TheVariants as user

-- `@all`
abbrev pub is_all : List ℕ → Bool
is_all word = bytes_eq word (codes "@all")

-- ---- groups

-- the members that a scope sees of a group by the lines before a place; none where no line names it
abbrev pub members_at : List Placed → ℕ → Scope → List ℕ → List (List ℕ)
members_at placed place scope group = members_in (members_before placed group scope place)

-- the members by all lines
abbrev pub members_of : List Placed → Scope → List ℕ → List (List ℕ)
members_of placed scope group = members_at placed (length placed) scope group

-- a refex, a user or a member that is a group, other than `@all`
abbrev pub is_group : List ℕ → Bool
is_group word = begins_with_at word && not (is_all word)

-- a repository word that is a group, other than `@all`
abbrev pub is_group_kind : RepoWordKind → Bool
is_group_kind kind.Group = true
is_group_kind kind.Plain = false
is_group_kind kind.Pattern = false

abbrev pub is_repo_group : List ℕ → Bool
is_repo_group word = is_group_kind (kind_of (repo_word word)) && not (is_all word)

abbrev pub is_nothing : List (List ℕ) → Bool
is_nothing words = length words == 0

-- the first group among the words that has no members before the place
abbrev pub unknown_at : List Placed → ℕ → Scope → List (List ℕ) → Option (List ℕ)
unknown_at placed place scope [] = None
unknown_at placed place scope (w ∷ ws) =
    if is_group w && is_nothing (members_at placed place scope w) then Some w else unknown_at placed place scope ws

-- the first repository word that is a group without members
abbrev pub unknown_repo : List Placed → Scope → List (List ℕ) → Option (List ℕ)
unknown_repo placed scope [] = None
unknown_repo placed scope (w ∷ ws) =
    if is_repo_group w && is_nothing (members_of placed scope w) then Some w else unknown_repo placed scope ws

-- ---- repository words

-- a word with its group written out; words as they were written
abbrev pub expanded : List Placed → Scope → List ℕ → List (List ℕ)
expanded placed scope word = if is_repo_group word then members_of placed scope word else word ∷ []

-- what a word that is no group stands for
abbrev pub named : List ℕ → RepoWord
named word = if is_repo_name word then repo.Plain word else repo.Pattern word

abbrev pub repo_of : List ℕ → RepoWord
repo_of word = if is_all word then repo.All else named (repo_word word)

-- a pattern without `CREATOR`
abbrev pub is_plain_pattern : List ℕ → Bool
is_plain_pattern word = not (is_repo_name word) && not (occurs (codes "CREATOR") word)

-- a member of the group of a subconf's name lets it set access for the word: it is the word, or a pattern
-- that matches the whole of it
abbrev pub lets : Patterns → List ℕ → List ℕ → Bool
lets patterns word member = bytes_eq word member || (is_repo_name word && (is_plain_pattern member && patterns.takes member [] word))

abbrev pub some_lets : Patterns → List ℕ → List (List ℕ) → Bool
some_lets patterns word [] = false
some_lets patterns word (m ∷ ms) = lets patterns word (repo_word m) || some_lets patterns word ms

-- A subconf sets access for the repository of its name, and for what main lines made a member of the group of
-- its name.
abbrev pub is_in : Patterns → List Placed → List ℕ → List ℕ → Bool
is_in patterns placed name word =
    not (is_all word)
    && (bytes_eq (repo_word word) (repo_word name) || some_lets patterns (repo_word word) (members_of placed Main (64 ∷ name)))

abbrev pub may_set : Patterns → List Placed → Scope → List ℕ → Bool
may_set patterns placed Main word = true
may_set patterns placed (Sub name) word = is_in patterns placed name word

-- ---- refexes

-- a group of refexes is for its members at the line
abbrev pub refexes_in : List Placed → ℕ → Scope → List (List ℕ) → List (List ℕ)
refexes_in placed place scope [] = []
refexes_in placed place scope (w ∷ ws) =
    if is_group w then members_at placed place scope w ++ refexes_in placed place scope ws
    else w ∷ refexes_in placed place scope ws

-- after `VREF/MERGE-CHECK/` a tail that doesn't begin with `refs/` gets `refs/heads/` in front
abbrev pub merge_check : List ℕ → List ℕ
merge_check text =
    if starts_with nat_eq text (codes "VREF/MERGE-CHECK/") && not (starts_with nat_eq (drop 17 text) (codes "refs/"))
    then codes "VREF/MERGE-CHECK/refs/heads/" ++ drop 17 text
    else text

-- a refex with its prefix
abbrev pub with_prefix : List ℕ → List ℕ
with_prefix word =
    if starts_with nat_eq word (codes "NAME/") then codes "VREF/" ++ word
    else if starts_with nat_eq word (codes "VREF/") then merge_check word
    else if starts_with nat_eq word (codes "refs/") then word
    else codes "refs/heads/" ++ word

abbrev pub prefixed : List (List ℕ) → List (List ℕ)
prefixed words = map with_prefix words

-- the refexes of a rule, each with its prefix; without any it is for all refs
abbrev pub refex_texts : List (List ℕ) → List (List ℕ)
refex_texts words = if length words == 0 then codes "refs/.*" ∷ [] else prefixed words

-- a virtual ref of the kind, alone or with a tail
abbrev pub is_vref : List ℕ → List ℕ → Bool
is_vref kind text = bytes_eq text kind || starts_with nat_eq text (kind ++ codes "/")

-- a virtual ref that is neither of `NAME` nor of `MERGE-CHECK`
abbrev pub is_unknown_vref : List ℕ → Bool
is_unknown_vref text =
    starts_with nat_eq text (codes "VREF/") && not (is_vref (codes "VREF/NAME") text || is_vref (codes "VREF/MERGE-CHECK") text)

-- ---- users

-- a word that is neither a group nor a name
abbrev pub other_user : List ℕ → UserWord
other_user word = if bytes_eq word (codes "CREATOR") then user.Creator else user.Role word

-- a word that is no group
abbrev pub single_user : List ℕ → UserWord
single_user word = if is_user_name word then user.Name word else other_user word

abbrev pub user_of : List Placed → Scope → List ℕ → UserWord
user_of placed scope word =
    if is_all word then user.All
    else if begins_with_at word then user.Group word (members_of placed scope word)
    else single_user word

abbrev pub users_of : List Placed → Scope → List (List ℕ) → List UserWord
users_of placed scope words = map (user_of placed scope) words
