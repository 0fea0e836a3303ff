-- What is to come as the code keeps it, a stack, and as the definitions see it, a list.
use Rattle.std.specs.Prelude.{ℕ, List, [], ◌∷◌, ◌++◌, ◌+◌, ◌≡◌, ◌<◌, ◌-◌, Bool, true, false, Option, Some, None, Result, Ok, Err}
use Rattle.conf_lex.specs.Statements.{statement}
use Rattle.conf_lex.specs.declared.statement.Statement.{Statement}
use Rattle.conf_groups.specs.Files.{Files}
use Rattle.conf_groups.specs.Lines.{lines_of}
use Rattle.conf_groups.specs.Splicing.{Piece, boundary, whole, rest, State, Line, Front, end, line, front, next, refusal, unless_refused, Spliced, spliced_from, GivesFault, HasPlace}
use Rattle.conf_groups.specs.declared.placed.Scope.{Scope}
use Rattle.conf_groups.specs.declared.placed.Scope.TheVariants as scope
use Rattle.conf_groups.specs.declared.placed.ScopeAt.{ScopeAt}
use Rattle.conf_groups.specs.declared.placed.ScopeAt.TheVariants.{Main, Sub}
use Rattle.conf_groups.specs.declared.fault.ConfFault.{ConfFault}
use Rattle.conf_groups.specs.declared.fault.ConfKind.{ConfKind}
use Rattle.conf_groups.specs.declared.stack.Coming.{Coming}
use Rattle.conf_groups.specs.declared.stack.Coming.TheVariants.{Boundary, Whole, Rest}
use Rattle.conf_groups.specs.declared.stack.Rest as declared
use Rattle.conf_groups.specs.declared.stack.LineAt.{LineAt}
use Rattle.conf_groups.specs.declared.stack.Splicer.{Splicer}

abbrev pub scope_at : ScopeAt → Scope
scope_at Main = scope.Main
scope_at (Sub name) = scope.Sub name.now

abbrev pub piece_of : Coming → Piece
piece_of Boundary = boundary
piece_of (Whole s file) = whole (scope_at s) file.now
piece_of (Rest r) = rest (scope_at r.scope) r.file.now r.line (lines_of r.bytes.now)

-- the last piece comes first
abbrev pub to_come : List Coming → List Piece
to_come [] = []
to_come (p ∷ ps) = to_come ps ++ piece_of p ∷ []

abbrev pub state_of : Splicer → State
state_of s = record { placed = s.placed; unspliced = s.unspliced; bytes = s.bytes; coming = to_come s.stack.items }

abbrev pub line_of : LineAt → Line
line_of l = record { scope = scope_at l.scope; file = l.file.now; number = l.number; over = l.over; text = l.text.now }

-- where a piece has a line, that line; else what comes after the piece
abbrev pub front_after : Splicer → Option LineAt → Front
front_after s (Some l) = line (line_of l) (state_of s)
front_after s None = front (state_of s)

-- the next line, or all that was placed
abbrev pub front_found : Splicer → Option LineAt → Front
front_found s (Some l) = line (line_of l) (state_of s)
front_found s None = end s.placed

abbrev pub on_top : Piece → Splicer → Front
on_top p s = next s.placed s.unspliced s.bytes (p ∷ to_come s.stack.items)

-- the first line of what is left of a file, on top of a state
abbrev pub front_by : Splicer → Bool → Scope → List ℕ → ℕ → List (List ℕ) → Front
front_by s over scope file n [] = front (state_of s)
front_by s over scope file n (text ∷ texts) =
    line (record { scope = scope; file = file; number = n; over = over; text = text })
    (record { placed = s.placed; unspliced = s.unspliced; bytes = s.bytes; coming = rest scope file (n + 1) texts ∷ to_come s.stack.items })

abbrev pub front_of_rest : Splicer → Bool → declared.Rest → Front
front_of_rest s over r = front_by s over (scope_at r.scope) r.file.now r.line (lines_of r.bytes.now)

abbrev pub front_of_whole : Splicer → ScopeAt → List ℕ → Front
front_of_whole s at file = on_top (whole (scope_at at) file) s

abbrev pub front_of_piece : Splicer → Coming → Front
front_of_piece s p = on_top (piece_of p) s

-- what reading a line gives: its statement, unless it is refused
abbrev pub Admits : Files → Bool → Line → Result Statement ConfFault → Type 0
Admits files full l (Ok said) = (statement l.text ≡ Ok said) × (refusal files full l.scope (statement l.text) ≡ None)
Admits files full l (Err e) = (due : Spliced) → GivesFault e.kind e (unless_refused l (refusal files full l.scope (statement l.text)) due)

-- a fault of that kind at that place, or out of memory
abbrev pub Makes : ConfFault → ConfKind → List ℕ → ℕ → Type 0
Makes e k file n = (due : Spliced) → due ≡ Err (record { kind = k; file = file; line = n }) → GivesFault e.kind e due

-- what refuses a line has a place
abbrev pub KindHasPlace : Option ConfKind → Type 0
KindHasPlace None = Unit {0}
KindHasPlace (Some k) = HasPlace k

-- one line further, whatever room there is; or all is placed
abbrev pub Steps : Files → State → State → Result Bool ConfFault → Type 0
Steps files before after (Ok true) = (room : ℕ) → 0 < room → spliced_from files room (front before) ≡ spliced_from files (room - 1) (front after)
Steps files before after (Ok false) = (room : ℕ) → spliced_from files room (front before) ≡ Ok after.placed
Steps files before after (Err e) = (room : ℕ) → 0 < room → GivesFault e.kind e (spliced_from files room (front before))

-- what comes of it where there is no room
abbrev pub Ends : Files → State → State → Result (Unit {0}) ConfFault → Type 0
Ends files before after (Ok done) = spliced_from files 0 (front before) ≡ Ok after.placed
Ends files before after (Err e) = GivesFault e.kind e (spliced_from files 0 (front before))
