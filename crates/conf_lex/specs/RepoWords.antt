-- What a word that names repositories is: a group, a plain name or a pattern.
use Rattle.std.specs.Prelude.{ℕ, ◌&&◌, ◌-◌, nat_eq, List, length, take, codes, if◌then◌else◌}
use Rattle.std.specs.List.{ends_with}
use Rattle.conf_lex.specs.Names.{is_repo_name, occurs}
use Rattle.conf_lex.specs.Words.{begins_with_at}
use Rattle.conf_lex.specs.declared.repo_words.RepoWordKind.{RepoWordKind}
use Rattle.conf_lex.specs.declared.repo_words.RepoWordKind.TheVariants.{Group, Plain, Pattern}

-- the word without four bytes at its end
abbrev pub without_git : List ℕ → List ℕ
without_git word = take (length word - 4) word

-- A word that ends in `.git` and is a plain name without it stands for that name; every other stands for
-- itself.
abbrev pub repo_word : List ℕ → List ℕ
repo_word word = if ends_with nat_eq word (codes ".git") && is_repo_name (without_git word) then without_git word else word

-- A word with `CREATOR` in it is a pattern. Else it is a group where it begins with `@`, plain where it is a
-- plain name, and a pattern.
abbrev pub kind_of : List ℕ → RepoWordKind
kind_of word =
    if occurs (codes "CREATOR") word then Pattern
    else if begins_with_at word then Group
    else if is_repo_name word then Plain
    else Pattern
