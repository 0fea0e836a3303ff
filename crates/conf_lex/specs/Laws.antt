-- What holds of lines, statements and permissions whatever code reads them.
use Rattle.std.specs.Prelude.{ℕ, Bool, true, false, ◌≡◌, ◌≤◌, ◌+◌, ◌%◌, ◌==◌, ◌⊎◌, not, List, ◌∷◌, ◌++◌, drop, length, codes, Ok, Err, Some}
use Rattle.std.specs.List.{count_by, list_all}
use Rattle.conf_lex.specs.Cleaning.{cleaned, joined}
use Rattle.conf_lex.specs.Permissions.{creates, denies, perm_of, perm_text, reads, writes}
use Rattle.conf_lex.specs.Spelling.{spelling}
use Rattle.conf_lex.specs.Statements.{is_no_group, statement}
use Rattle.conf_lex.specs.Words.{begins_with_at, first_bad, is_bad, place_after}
use Rattle.conf_lex.specs.declared.words.Use.{Use}
use Rattle.conf_lex.specs.declared.perm.Perm.{Perm}
use Rattle.conf_lex.specs.declared.fault.LexFault.TheVariants.{BadWord}
use Rattle.conf_lex.specs.declared.words.Use.TheVariants.{Member, Refex, Repository, User}
use Rattle.conf_lex.specs.declared.statement.Statement.{Statement}
use Rattle.conf_lex.specs.declared.statement.Statement.TheVariants.{Group, Repo, Rule}

-- Cleaning what is clean changes nothing, so a line says what its cleaned line says.
pub record CleanStaysClean : Type 0 where
  pub cleaned_again : (line : List ℕ) → cleaned (cleaned line) ≡ cleaned line
  pub says_the_same : (line : List ℕ) → statement (cleaned line) ≡ statement line

-- What is after the mark of a comment, which has an even number of double quotes before it, has no effect.
pub record CommentsHaveNoEffect : Type 0 where
  pub cleaned_alike : (before comment : List ℕ) → count_by (λ b. b == 34) before % 2 ≡ 0 → cleaned (before ++ 35 ∷ comment) ≡ cleaned before

-- What a line says is read from its canonical line, which is clean.
pub record SpellingsAreRead : Type 0 where
  pub read_back : (line : List ℕ) (s : Statement) → statement line ≡ Ok s → statement (spelling s) ≡ Ok s
  pub clean : (line : List ℕ) (s : Statement) → statement line ≡ Ok s → cleaned (spelling s) ≡ spelling s

-- The word is the text with `DC` in place of its `CD`.
pub record IsTurned (text word : List ℕ) : Type 0 where
  pub before : List ℕ
  pub after : List ℕ
  pub canonical : text ≡ before ++ (codes "CD" ++ after)
  pub turned : word ≡ before ++ (codes "DC" ++ after)

-- The words of a permission: its text, and where it has `CD` that text turned.
abbrev pub IsWordOf : Perm → List ℕ → Type 0
IsWordOf p word = (word ≡ perm_text p) ⊎ IsTurned (perm_text p) word

-- The permission of a word is read from its text, too. A permission that is read from its text is read from
-- all its words, and a permission is read from no other word. Each kind of permission is read from its text.
pub record PermTextsAreRead : Type 0 where
  pub read_back : (word : List ℕ) (p : Perm) → perm_of word ≡ Some p → perm_of (perm_text p) ≡ Some p
  pub only_its_words : (word : List ℕ) (p : Perm) → perm_of word ≡ Some p → IsWordOf p word
  pub all_its_words : (word : List ℕ) (p : Perm) → perm_of (perm_text p) ≡ Some p → IsWordOf p word → perm_of word ≡ Some p
  pub denial : perm_of (perm_text denies) ≡ Some denies
  pub reading : perm_of (perm_text reads) ≡ Some reads
  pub creation : perm_of (perm_text creates) ≡ Some creates
  pub writing : (plus c d m : Bool) → perm_of (perm_text (writes plus c d m)) ≡ Some (writes plus c d m)

-- Every word is good where it is.
abbrev pub AllGood : Use → List (List ℕ) → Type 0
AllGood for ws = list_all (λ w. not (is_bad for w)) ws ≡ true

-- The words of a statement are good, and its permission is read from its text.
abbrev pub HasGoodWords : Statement → Type 0
HasGoodWords (Repo words) = (1 ≤ length words) × AllGood Repository words
HasGoodWords (Group name members) = (begins_with_at name ≡ true) × (is_no_group name ≡ false) × AllGood Member members
HasGoodWords (Rule perm refexes users) = (perm_of (perm_text perm) ≡ Some perm) × AllGood Refex refexes × (1 ≤ length users) × AllGood User users
HasGoodWords s = Unit {0}

pub record StatementsHaveGoodWords : Type 0 where
  pub have : (line : List ℕ) (s : Statement) → statement line ≡ Ok s → HasGoodWords s

-- The first bad word: it follows good words, and this is its place.
pub record IsFirstBad (for : Use) (at : ℕ) (ws : List (List ℕ)) (place : ℕ) : Type 0 where
  pub before : List (List ℕ)
  pub word : List ℕ
  pub after : List (List ℕ)
  pub split : ws ≡ before ++ word ∷ after
  pub good : AllGood for before
  pub bad : is_bad for word ≡ true
  pub there : place ≡ at + place_after before

-- A reported place is an offset in the cleaned line, or its length. It is that of the first bad word.
pub record PlacesAreOffsets : Type 0 where
  pub offset : (before after : List (List ℕ)) (word : List ℕ) → drop (place_after before) (joined (before ++ word ∷ after)) ≡ joined (word ∷ after)
  pub first : (for : Use) (at place : ℕ) (ws : List (List ℕ)) → first_bad for at ws ≡ Some place → IsFirstBad for at ws place
  pub within : (line : List ℕ) (at : ℕ) → statement line ≡ Err (BadWord at) → at ≤ length (cleaned line)
