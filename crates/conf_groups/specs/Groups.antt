-- The members of groups, by scopes and places.
use Rattle.std.specs.Prelude.{ℕ, List, [], ◌∷◌, ◌++◌, Bool, true, false, ◌&&◌, if◌then◌else◌, fold, take, Option, Some, None}
use Rattle.std.specs.List.{list_any, flat_map}
use Rattle.std.specs.Str.{bytes_eq}
use Rattle.conf_lex.specs.Words.{begins_with_at}
use Rattle.conf_lex.specs.declared.statement.Statement.{Statement}
use Rattle.conf_lex.specs.declared.statement.Statement.TheVariants.{Group}
use Rattle.conf_groups.specs.declared.placed.Scope.{Scope}
use Rattle.conf_groups.specs.declared.placed.Scope.TheVariants.{Main, Sub}
use Rattle.conf_groups.specs.declared.placed.Placed.{Placed}
use Rattle.conf_groups.specs.declared.placed.Placed.TheVariants as at

-- the word is in the list
abbrev pub holds : List (List ℕ) → List ℕ → Bool
holds items word = list_any (λ item. bytes_eq item word) items

-- a list without repeats, with one item more, or with more items
abbrev pub with_item : List (List ℕ) → List ℕ → List (List ℕ)
with_item items item = if holds items item then items else items ++ item ∷ []

abbrev pub with_items : List (List ℕ) → List (List ℕ) → List (List ℕ)
with_items items more = fold with_item items more

-- A line of the main scope is seen by all lines, and one of a subconf by those of the same scope.
abbrev pub sees : Scope → Scope → Bool
sees scope Main = true
sees Main (Sub t) = false
sees (Sub s) (Sub t) = bytes_eq s t

-- the members that are known of a group, for a scope: nothing where no line has named the group
abbrev pub Known : Type 0
Known = List ℕ → Scope → Option (List (List ℕ))

abbrev pub members_in : Option (List (List ℕ)) → List (List ℕ)
members_in None = []
members_in (Some members) = members

-- A word of a group line is a member. A group word is for the members that the line's scope knows of that
-- group.
abbrev pub meaning : Known → Scope → List ℕ → List (List ℕ)
meaning known scope word = if begins_with_at word then members_in (known word scope) else word ∷ []

-- A group line adds to what each scope that sees it knows of the group.
abbrev pub with_statement : Known → Scope → Statement → Known
with_statement known from (Group name words) =
    λ group scope.
    if bytes_eq group name && sees scope from then Some (with_items (members_in (known group scope)) (flat_map (meaning known from) words))
    else known group scope
with_statement known from other = known

abbrev pub with_placed : Known → Placed → Known
with_placed known at.EndOfBlock = known
with_placed known (at.Line l) = with_statement known l.scope l.statement

-- What is known after these lines.
abbrev pub known_after : List Placed → Known
known_after placed = fold with_placed (λ group scope. None) placed

-- The members that a scope sees of a group by the lines before a place, which counts from 0: each once, in
-- order of first mention.
abbrev pub members_before : List Placed → List ℕ → Scope → ℕ → Option (List (List ℕ))
members_before placed group scope before = known_after (take before placed) group scope
