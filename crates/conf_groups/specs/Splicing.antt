-- Which lines a conf is made of, in which order, or its first fault.
use Rattle.std.specs.Prelude.{ℕ, suc, zero, List, [], ◌∷◌, ◌++◌, ◌+◌, ◌-◌, ◌≡◌, Bool, true, false, ◌||◌, if◌then◌else◌, length, map, nat_lt, codes, Option, Some, None, Result, Ok, Err}
use Rattle.std.specs.List.{flat_map}
use Rattle.std.specs.FinMap as named
use Rattle.conf_lex.specs.Statements.{statement}
use Rattle.conf_lex.specs.declared.fault.LexFault.{LexFault}
use Rattle.conf_lex.specs.declared.fault.LexFault.TheVariants as lex
use Rattle.conf_lex.specs.declared.statement.Statement.{Statement}
use Rattle.conf_lex.specs.declared.statement.Statement.TheVariants.{Include, Subconf}
use Rattle.conf_groups.specs.Files.{Files, by_name, is_missing, named_by, scope_of}
use Rattle.conf_groups.specs.Lines.{lines_of}
use Rattle.conf_groups.specs.declared.conf_file.ConfFile.{ConfFile}
use Rattle.conf_groups.specs.declared.fault.ConfFault.{ConfFault}
use Rattle.conf_groups.specs.declared.fault.ConfKind.{ConfKind}
use Rattle.conf_groups.specs.declared.fault.ConfKind.TheVariants as kind
use Rattle.conf_groups.specs.declared.placed.Scope.{Scope}
use Rattle.conf_groups.specs.declared.placed.Scope.TheVariants.{Main, Sub}
use Rattle.conf_groups.specs.declared.placed.Placed.{Placed}
use Rattle.conf_groups.specs.declared.placed.Placed.TheVariants as at
use Rattle.conf_groups.specs.declared.limits.TheConstants.{MAX_FILES, MAX_FILE_BYTES, MAX_SPLICED_BYTES, MAX_LINES}

-- What is still to come: the end of a block, the lines of a file unless it was spliced before, or those of a
-- file from a number on.
pub data Piece : Type 0 where
  boundary : Piece
  whole : Scope → List ℕ → Piece
  rest : Scope → List ℕ → ℕ → List (List ℕ) → Piece

-- What was placed so far, the files that weren't spliced yet, how many bytes may still be spliced, and what
-- is still to come.
pub record State : Type 0 where
  pub placed : List Placed
  pub unspliced : Files
  pub bytes : ℕ
  pub coming : List Piece

-- A line at its place. It is over where its file has more bytes than may still be spliced.
pub record Line : Type 0 where
  pub scope : Scope
  pub file : List ℕ
  pub number : ℕ
  pub over : Bool
  pub text : List ℕ

-- The next line, with what was placed before it and what comes after it; or all that was placed.
pub data Front : Type 0 where
  end : List Placed → Front
  line : Line → State → Front

abbrev pub next : List Placed → Files → ℕ → List Piece → Front
next placed unspliced bytes [] = end placed
next placed unspliced bytes (boundary ∷ coming) = next (placed ++ at.EndOfBlock ∷ []) unspliced bytes coming
next placed unspliced bytes (rest scope file n [] ∷ coming) = next placed unspliced bytes coming
next placed unspliced bytes (rest scope file n (text ∷ texts) ∷ coming) =
    line (record { scope = scope; file = file; number = n; over = false; text = text })
    (record { placed = placed; unspliced = unspliced; bytes = bytes; coming = rest scope file (n + 1) texts ∷ coming })
next placed unspliced bytes (whole scope file ∷ coming) = elim (named.get unspliced file) [
  | None ↦ next placed unspliced bytes coming
  | (Some content) ↦ elim (lines_of content) [
    | [] ↦ next placed (named.remove unspliced file) (bytes - length content) coming
    | (text ∷ texts) ↦
        line (record { scope = scope; file = file; number = 1; over = nat_lt bytes (length content); text = text })
        (record { placed = placed; unspliced = named.remove unspliced file; bytes = bytes - length content; coming = rest scope file 2 texts ∷ coming })
  ]
]

abbrev pub front : State → Front
front s = next s.placed s.unspliced s.bytes s.coming

-- What refuses a line, if anything does. It is full where no further line may come.
abbrev pub limit : Bool → Option ConfKind
limit full = if full then Some kind.TooLong else None

abbrev pub in_subconf : Scope → Option ConfKind
in_subconf Main = None
in_subconf (Sub s) = Some kind.SubconfInSubconf

abbrev pub refusal : Files → Bool → Scope → Result Statement LexFault → Option ConfKind
refusal files full scope (Err e) = Some (kind.Lex e)
refusal files full scope (Ok (Include pattern)) = if is_missing files pattern then Some (kind.NoFile pattern) else limit full
refusal files full scope (Ok (Subconf pattern)) =
    if is_missing files pattern then Some (kind.NoFile pattern)
    else if full then Some kind.TooLong
    else in_subconf scope
refusal files full scope (Ok other) = limit full

-- a file with its own scope, and the end of a block after it
abbrev pub section : List ℕ → List Piece
section file = whole (Sub (scope_of file)) file ∷ boundary ∷ []

-- What a statement brings before the lines that come after it. A block ends before and after each file of a
-- subconf, and at the `subconf` line itself.
abbrev pub brought : Files → Scope → Statement → List Piece
brought unspliced scope (Include pattern) = map (whole scope) (named_by unspliced pattern)
brought unspliced scope (Subconf pattern) = boundary ∷ flat_map section (named_by unspliced pattern)
brought unspliced scope other = []

abbrev pub placed_line : Line → Statement → Placed
placed_line l said = at.Line (record { scope = l.scope; file = l.file; line = l.number; statement = said })

abbrev pub with_line : State → Line → Statement → State
with_line s l said = record s { placed = s.placed ++ placed_line l said ∷ []; coming = brought s.unspliced l.scope said ++ s.coming }

abbrev pub fault_at : Line → ConfKind → ConfFault
fault_at l k = record { kind = k; file = l.file; line = l.number }

-- the statements at their places, or the first fault
abbrev pub Spliced : Type 0
Spliced = Result (List Placed) ConfFault

-- the fault of a refused line, or else what comes of placing it
abbrev pub unless_refused : Line → Option ConfKind → Spliced → Spliced
unless_refused l (Some k) due = Err (fault_at l k)
unless_refused l None due = due

-- the front once the line was placed
abbrev pub after : State → Line → Result Statement LexFault → Front
after s l (Ok said) = front (with_line s l said)
after s l (Err e) = end []

-- Line by line, as long as there is room for one more. The files are all of the conf.
unfoldable pub spliced_from : Files → ℕ → Front → Spliced
spliced_from files room (end placed) = Ok placed
spliced_from files zero (line l s) = unless_refused l (refusal files true l.scope (statement l.text)) (Err (fault_at l kind.TooLong))
spliced_from files (suc room) (line l s) = unless_refused l (refusal files l.over l.scope (statement l.text)) (spliced_from files room (after s l (statement l.text)))

abbrev pub main_name : List ℕ
main_name = codes "gitolite.conf"

abbrev pub before_all : ConfKind → Spliced
before_all k = Err (record { kind = k; file = main_name; line = 0 })

-- The conf is read from its main file.
abbrev pub start : Files → State
start files = record { placed = []; unspliced = files; bytes = MAX_SPLICED_BYTES; coming = whole Main main_name ∷ [] }

abbrev pub total_bytes : List (List ℕ) → ℕ
total_bytes [] = 0
total_bytes (content ∷ contents) = length content + total_bytes contents

abbrev pub is_too_large : Files → Bool
is_too_large files = nat_lt MAX_FILES (named.len files) || nat_lt MAX_FILE_BYTES (total_bytes (named.values files))

abbrev pub spliced_files : Files → Spliced
spliced_files files =
    if is_too_large files then before_all kind.TooLong
    else if is_missing files main_name then before_all (kind.NoFile main_name)
    else spliced_from files MAX_LINES (front (start files))

-- What a list of files is spliced to.
abbrev pub spliced : List ConfFile → Spliced
spliced list = spliced_files (by_name list)

-- a kind of fault that has a place
abbrev pub HasPlace : ConfKind → Type 0
HasPlace kind.NoMemory = ⊥
HasPlace (kind.Lex lex.NoMemory) = ⊥
HasPlace k = Unit {0}

-- A fault is the one that is due, unless memory ran out; that fault has no place.
abbrev pub GivesFault : ConfKind → ConfFault → Spliced → Type 0
GivesFault kind.NoMemory e due = (e.file ≡ []) × (e.line ≡ 0)
GivesFault (kind.Lex lex.NoMemory) e due = ⊥
GivesFault k e due = due ≡ Err e

abbrev pub Gives : Spliced → Spliced → Type 0
Gives (Ok placed) due = due ≡ Ok placed
Gives (Err e) due = GivesFault e.kind e due
