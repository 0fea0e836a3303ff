-- What a line says: the table of statements, of which the first row that applies counts.
use Rattle.std.specs.Prelude.{ℕ, List, [], ◌∷◌, ◌++◌, ◌==◌, ◌-◌, ◌≡◌, Bool, ◌&&◌, ◌||◌, nat_eq, if◌then◌else◌, length, take, codes, slice_index_or, Option, Some, None, Result, Ok, Err}
use Rattle.std.specs.List.{ends_with}
use Rattle.std.specs.Str.{bytes_eq}
use Rattle.conf_lex.specs.Cleaning.{cleaned, joined, words}
use Rattle.conf_lex.specs.Permissions.{perm_of}
use Rattle.conf_lex.specs.Words.{begins_with_at, after_equals, before_equals, first_bad, has_equals, is_equals, place_after}
use Rattle.conf_lex.specs.declared.perm.Perm.{Perm}
use Rattle.conf_lex.specs.declared.fault.LexFault.{LexFault}
use Rattle.conf_lex.specs.declared.fault.LexFault.TheVariants.{NotAStatement, BadPermission, BadWord, NoMemory}
use Rattle.conf_lex.specs.declared.statement.Statement.{Statement}
use Rattle.conf_lex.specs.declared.statement.Statement.TheVariants.{Blank, Repo, Rule, Group, Include, Subconf, Opt, NoEffect}
use Rattle.conf_lex.specs.declared.words.Use.TheVariants.{Anything, Repository, Member, Refex, User}

-- What a line says, or its fault.
abbrev pub Answer : Type 0
Answer = Result Statement LexFault

-- unless a word is bad, and then the fault of that word
abbrev pub unless_bad : Option ℕ → Answer → Answer
unless_bad None answer = answer
unless_bad (Some at) answer = Err (BadWord at)

abbrev pub or_else : Option ℕ → Option ℕ → Option ℕ
or_else None second = second
or_else (Some at) second = Some at

-- `repo WORD ..`, by the words after the first
abbrev pub repo_line : List (List ℕ) → Answer
repo_line [] = Err NotAStatement
repo_line (w ∷ ws) = unless_bad (first_bad Repository (place_after (codes "repo" ∷ [])) (w ∷ ws)) (Ok (Repo (w ∷ ws)))

-- without a pair of double or of single quotes round it
abbrev pub unquoted : List ℕ → List ℕ
unquoted [] = []
unquoted (q ∷ rest) = if (q == 34 || q == 39) && ends_with nat_eq rest (q ∷ []) then take (length rest - 1) rest else q ∷ rest

-- the name of no group
abbrev pub is_no_group : List ℕ → Bool
is_no_group name = bytes_eq name (codes "@") || bytes_eq name (codes "@all")

-- `@NAME = MEMBER ..`, by the name and the members, which may be none
abbrev pub group_line : List ℕ → List (List ℕ) → Answer
group_line name members =
    if is_no_group name then Err (BadWord 0)
    else unless_bad (first_bad Member (place_after (name ∷ codes "=" ∷ [])) members) (Ok (Group name members))

-- The first bad word of a rule: a refex, or a user. Where no user follows the `=`, it is the line's end.
abbrev pub bad_user : List (List ℕ) → List (List ℕ) → Option ℕ
bad_user before users =
    if length users == 0 then Some (length (joined before))
    else first_bad User (place_after before) users

abbrev pub bad_in_rule : List ℕ → List (List ℕ) → List (List ℕ) → Option ℕ
bad_in_rule perm refexes users =
    or_else (first_bad Refex (place_after (perm ∷ [])) refexes) (bad_user (perm ∷ (refexes ++ codes "=" ∷ [])) users)

-- `PERMISSION REFEX .. = USER ..`, by the first word, the refexes and the users
abbrev pub rule_line : List ℕ → List (List ℕ) → List (List ℕ) → Option Perm → Answer
rule_line word refexes users None = Err BadPermission
rule_line word refexes users (Some perm) = unless_bad (bad_in_rule word refexes users) (Ok (Rule perm refexes users))

-- the words whose lines have no effect
abbrev pub is_without_effect : List ℕ → Bool
is_without_effect word = bytes_eq word (codes "config") || bytes_eq word (codes "desc") || bytes_eq word (codes "owner") || bytes_eq word (codes "category")

-- the word at a place, counted from 0
abbrev pub nth : List (List ℕ) → ℕ → List ℕ
nth ws i = slice_index_or ws i []

-- the first row that applies; where none does it is no statement
abbrev pub first_row : List (Bool × Answer) → Answer
first_row [] = Err NotAStatement
first_row (row ∷ rows) = if row.0 then row.1 else first_row rows

-- the last two rows, which want an `=` word
abbrev pub rows_with_equals : List ℕ → List (List ℕ) → Answer
rows_with_equals w ws = first_row (
    (is_without_effect w && has_equals ws, Ok NoEffect)
    ∷ (has_equals (w ∷ ws), rule_line w (before_equals ws) (after_equals ws) (perm_of w))
    ∷ [])

-- The table, by the words of a line. Rows but the first go by the first word and those after it.
abbrev pub by_table : List (List ℕ) → Answer
by_table [] = Ok Blank
by_table (w ∷ ws) = first_row (
    (bytes_eq w (codes "repo"), repo_line ws)
    ∷ (bytes_eq w (codes "include") && (length ws == 1), Ok (Include (unquoted (nth ws 0))))
    ∷ (bytes_eq w (codes "subconf") && (length ws == 1), Ok (Subconf (unquoted (nth ws 0))))
    ∷ (begins_with_at w && is_equals (nth ws 0), group_line w (after_equals ws))
    ∷ (bytes_eq w (codes "option") && (length ws == 3) && is_equals (nth ws 1), Ok (Opt (nth ws 0) (nth ws 2)))
    ∷ (is_without_effect w && has_equals ws, Ok NoEffect)
    ∷ (has_equals (w ∷ ws), rule_line w (before_equals ws) (after_equals ws) (perm_of w))
    ∷ [])

-- A word that is too long comes before every other fault.
abbrev pub by_words : List (List ℕ) → Answer
by_words ws = unless_bad (first_bad Anything 0 ws) (by_table ws)

-- what a line says
abbrev pub statement : List ℕ → Answer
statement line = by_words (words (cleaned line))

-- An answer is what the line says, unless memory runs out.
abbrev pub IsDue : Answer → Answer → Type 0
IsDue (Err NoMemory) due = Unit {0}
IsDue (Err NotAStatement) due = due ≡ Err NotAStatement
IsDue (Err BadPermission) due = due ≡ Err BadPermission
IsDue (Err (BadWord at)) due = due ≡ Err (BadWord at)
IsDue (Ok s) due = due ≡ Ok s
