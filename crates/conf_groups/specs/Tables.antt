-- The group lines of a conf by their groups, as the code keeps them: each at its place, with its members
-- written out.
use Rattle.std.specs.Prelude.{ℕ, List, [], ◌∷◌, ◌++◌, ◌+◌, nat_lt, ◌&&◌, if◌then◌else◌, fold, Option, Some, None}
use Rattle.std.specs.FinMap as named
use Rattle.base_types.specs.Names.{ByName}
use Rattle.conf_lex.specs.Words.{begins_with_at}
use Rattle.conf_lex.specs.declared.statement.Statement.{Statement}
use Rattle.conf_lex.specs.declared.statement.Statement.TheVariants.{Group}
use Rattle.conf_groups.specs.Groups.{members_in, sees, with_items}
use Rattle.conf_groups.specs.declared.placed.Scope.{Scope}
use Rattle.conf_groups.specs.declared.placed.Placed.{Placed}
use Rattle.conf_groups.specs.declared.placed.Placed.TheVariants as at
use Rattle.conf_groups.specs.declared.groups.GroupLine.{GroupLine}

-- the group lines of each group, in order
abbrev pub Lines : Type 0
Lines = ByName (List GroupLine)

abbrev pub lines_in : Option (List GroupLine) → List GroupLine
lines_in None = []
lines_in (Some lines) = lines

abbrev pub lines_of : Lines → List ℕ → List GroupLine
lines_of lines group = lines_in (named.get lines group)

-- the members with those of one line more, if the scope sees it and it is before the place
abbrev pub with_line : Scope → ℕ → Option (List (List ℕ)) → GroupLine → Option (List (List ℕ))
with_line scope before members line =
    if nat_lt line.place before && sees scope line.scope then Some (with_items (members_in members) line.members) else members

-- The members that a scope sees by the lines before a place, of a group with these lines; nothing where there
-- is no such line.
abbrev pub members_by : List GroupLine → Scope → ℕ → Option (List (List ℕ))
members_by lines scope before = fold (with_line scope before) None lines

abbrev pub members_at : Lines → List ℕ → Scope → ℕ → Option (List (List ℕ))
members_at lines group scope before = members_by (lines_of lines group) scope before

-- A word of a group line is a member. A group word is for the members of that group at the line, which the
-- line's scope sees.
abbrev pub meaning : Lines → Scope → ℕ → List ℕ → List (List ℕ)
meaning lines scope place word = if begins_with_at word then members_in (members_at lines word scope place) else word ∷ []

-- the members that the words of a line give, without repeats
abbrev pub with_word : Lines → Scope → ℕ → List (List ℕ) → List ℕ → List (List ℕ)
with_word lines scope place members word = with_items members (meaning lines scope place word)

abbrev pub meanings : Lines → Scope → ℕ → List (List ℕ) → List (List ℕ)
meanings lines scope place words = fold (with_word lines scope place) [] words

-- the group lines with one more
abbrev pub with_group_line : Lines → List ℕ → GroupLine → Lines
with_group_line lines group line = named.insert lines group (lines_of lines group ++ line ∷ [])

abbrev pub with_statement : Lines → ℕ → Scope → Statement → Lines
with_statement lines place scope (Group name words) =
    with_group_line lines name (record { place = place; scope = scope; members = meanings lines scope place words })
with_statement lines place scope other = lines

abbrev pub with_placed : Lines → ℕ → Placed → Lines
with_placed lines place at.EndOfBlock = lines
with_placed lines place (at.Line l) = with_statement lines place l.scope l.statement

abbrev pub groups_from : Lines → ℕ → List Placed → Lines
groups_from lines place [] = lines
groups_from lines place (p ∷ ps) = groups_from (with_placed lines place p) (place + 1) ps

-- The groups of a conf: their lines, read in order. Places count from 0.
abbrev pub groups_of : List Placed → Lines
groups_of placed = groups_from named.empty 0 placed

-- items with the members that these lines give
abbrev pub with_counted : Scope → ℕ → List (List ℕ) → GroupLine → List (List ℕ)
with_counted scope before items line = if nat_lt line.place before && sees scope line.scope then with_items items line.members else items

abbrev pub lines_counted : List GroupLine → Scope → ℕ → List (List ℕ) → List (List ℕ)
lines_counted lines scope before items = fold (with_counted scope before) items lines
