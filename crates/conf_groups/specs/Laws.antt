-- What holds of splicing and of groups, in words of its own.
use Rattle.std.specs.Prelude.{ℕ, List, [], ◌∷◌, ◌++◌, ◌+◌, ◌≡◌, ◌≤◌, Bool, true, false, not, ◌&&◌, length, Option, Some, None, Result, Ok, Err, ◌⊎◌, if◌then◌else◌}
use Rattle.std.specs.List.{list_all, list_any}
use Rattle.std.specs.Str.{bytes_eq}
use Rattle.std.specs.FinMap as named
use Rattle.conf_lex.specs.Statements.{statement}
use Rattle.conf_lex.specs.Words.{begins_with_at}
use Rattle.conf_lex.specs.declared.fault.LexFault.{LexFault}
use Rattle.conf_lex.specs.declared.statement.Statement.{Statement}
use Rattle.conf_lex.specs.declared.statement.Statement.TheVariants.{Group, Include, Subconf}
use Rattle.conf_groups.specs.Files.{by_name}
use Rattle.conf_groups.specs.Groups.{holds, known_after, members_in, sees}
use Rattle.conf_groups.specs.Lines.{lines_of}
use Rattle.conf_groups.specs.Splicing.{is_too_large, main_name, spliced}
use Rattle.conf_groups.specs.declared.conf_file.ConfFile.{ConfFile}
use Rattle.conf_groups.specs.declared.limits.TheConstants.{MAX_LINES, MAX_SPLICED_BYTES}
use Rattle.conf_groups.specs.declared.placed.Scope.{Scope}
use Rattle.conf_groups.specs.declared.placed.Scope.TheVariants.{Main}
use Rattle.conf_groups.specs.declared.placed.Placed.{Placed}
use Rattle.conf_groups.specs.declared.placed.Placed.TheVariants as at
use Rattle.conf_groups.specs.declared.placed.PlacedLine.{PlacedLine}

-- the line is a statement, and names no files
abbrev pub names_no_file : Result Statement LexFault → Bool
names_no_file (Err e) = false
names_no_file (Ok (Include p)) = false
names_no_file (Ok (Subconf p)) = false
names_no_file (Ok other) = true

-- the lines of a file at their places, from a number on
abbrev pub placed_as : Scope → List ℕ → ℕ → Result Statement LexFault → List Placed
placed_as scope file n (Ok said) = at.Line (record { scope = scope; file = file; line = n; statement = said }) ∷ []
placed_as scope file n (Err e) = []

abbrev pub numbered : Scope → List ℕ → ℕ → List (List ℕ) → List Placed
numbered scope file n [] = []
numbered scope file n (text ∷ texts) = placed_as scope file n (statement text) ++ numbered scope file (n + 1) texts

-- A conf whose main file names no files is the lines of that file in order, whatever other files there are.
pub record PlainConfIsItsLines : Type 0 where
  pub is : (list : List ConfFile) (text : List ℕ)
      → named.get (by_name list) main_name ≡ Some text → is_too_large (by_name list) ≡ false
      → list_all (λ t. names_no_file (statement t)) (lines_of text) ≡ true → length text ≤ MAX_SPLICED_BYTES → length (lines_of text) ≤ MAX_LINES
      → spliced list ≡ Ok (numbered Main main_name 1 (lines_of text))

-- the lines of a file among what was placed
abbrev pub is_of : List ℕ → Placed → Bool
is_of name at.EndOfBlock = false
is_of name (at.Line l) = bytes_eq l.file name

abbrev pub lines_from_file : List ℕ → List Placed → List Placed
lines_from_file name [] = []
lines_from_file name (x ∷ xs) = if is_of name x then x ∷ lines_from_file name xs else lines_from_file name xs

-- none of a file's lines, or all of them, once and in order, in one scope
abbrev pub ArePlacedOnce : List ℕ → Option (List ℕ) → List Placed → Type 0
ArePlacedOnce name None lines = lines ≡ []
ArePlacedOnce name (Some content) lines = (lines ≡ []) ⊎ ((scope : Scope) × (lines ≡ numbered scope name 1 (lines_of content)))

-- No file is spliced twice, and no line of it is lost or out of order.
pub record EachFileIsPlacedOnce : Type 0 where
  pub once : (list : List ConfFile) (name : List ℕ) (placed : List Placed) → spliced list ≡ Ok placed → ArePlacedOnce name (named.get (by_name list) name) (lines_from_file name placed)

-- a file of the list has the name
abbrev pub has_name : List ConfFile → List ℕ → Bool
has_name list name = list_any (λ f. bytes_eq f.name name) list

-- The order of the list has no effect where no name is in it twice, and of two files of one name the later
-- has none.
pub record OrderHasNoEffect : Type 0 where
  pub moved : (before after : List ConfFile) (f : ConfFile) → has_name before f.name ≡ false → spliced (before ++ f ∷ after) ≡ spliced (f ∷ before ++ after)
  pub repeated : (before after : List ConfFile) (f : ConfFile) → has_name before f.name ≡ true → spliced (before ++ f ∷ after) ≡ spliced (before ++ after)

-- A word is a member of a group for a scope, by these lines: an earlier line made it one; or the last line,
-- which the scope sees, is of the group and has the word, or has a group of which the word is a member for
-- that line's scope by the lines before.
pub data IsMember (word : List ℕ) : List Placed → List ℕ → Scope → Type 0 where
  Earlier : (lines : List Placed) (last : Placed) (group : List ℕ) (scope : Scope) → IsMember word lines group scope → IsMember word (lines ++ last ∷ []) group scope
  Own : (lines : List Placed) (l : PlacedLine) (group : List ℕ) (words : List (List ℕ)) (scope : Scope)
      → l.statement ≡ Group group words → sees scope l.scope ≡ true → holds words word ≡ true → begins_with_at word ≡ false
      → IsMember word (lines ++ at.Line l ∷ []) group scope
  Through : (lines : List Placed) (l : PlacedLine) (group : List ℕ) (words : List (List ℕ)) (scope : Scope) (inner : List ℕ)
      → l.statement ≡ Group group words → sees scope l.scope ≡ true → holds words inner ≡ true → begins_with_at inner ≡ true
      → IsMember word lines inner l.scope → IsMember word (lines ++ at.Line l ∷ []) group scope

-- no item is among those that follow it
abbrev pub are_distinct : List (List ℕ) → Bool
are_distinct [] = true
are_distinct (item ∷ items) = not (holds items item) && are_distinct items

-- The members are the words that are members by the rule above, each once.
pub record MembersAreThoseByTheRule : Type 0 where
  pub by_the_rule : (placed : List Placed) (group : List ℕ) (scope : Scope) (word : List ℕ) → holds (members_in (known_after placed group scope)) word ≡ true → IsMember word placed group scope
  pub all_of_them : (placed : List Placed) (group : List ℕ) (scope : Scope) (word : List ℕ) → IsMember word placed group scope → holds (members_in (known_after placed group scope)) word ≡ true
  pub distinct : (placed : List Placed) (group : List ℕ) (scope : Scope) → are_distinct (members_in (known_after placed group scope)) ≡ true
