-- Tables in the order of their names, and listings over them.
use Rattle.std.proofs.Common.{◌≡◌, List, [], ◌∷◌, ◌++◌, map, refl, sym, ◌∙◌, ap}
use Rattle.std.specs.BTreeMap.{BTreeMap, IsOrdered}
use Rattle.std.specs.List.{flat_map}
use Rattle.std.specs.Ordering.{nat_cmp}
use Rattle.std.specs.Cmp.Lexicographic.{slice_cmp}
use Rattle.std.specs.FinMap.{entries, from_entries}
use Rattle.base_types.specs.Names.{ByName}
use Rattle.base_types.proofs.NameMaps.{entries-of}
use Rattle.ref_store.specs.Refs.{Name}
use Rattle.rule_compile.specs.Flat.{Flat}
use Rattle.rule_compile.specs.Patterns.{Patterns}
use Rattle.repo_listing.specs.Listing.{pattern_lines, repo_lines}
use Rattle.repo_listing.specs.declared.lines.LookLine.{LookLine}
use Rattle.hub_history.specs.State.{Repository, State}
use Rattle.hub.specs.Answer.{lines_for, listed_repo}

flat_map_map : {A B C : Type 0} (f : B → List C) (g : A → B) (xs : List A) → flat_map f (map g xs) ≡ flat_map (λ x. f (g x)) xs
flat_map_map f g [] = refl
flat_map_map f g (x ∷ xs) = ap (λ l. f (g x) ++ l) (flat_map_map f g xs)

-- lines that were made along a table of the repositories whose names ascend are those that are due
pub lines_due : (ps : Patterns) (rules : Flat) (state : State) (user : Name) (m : BTreeMap Name Repository) → IsOrdered (slice_cmp nat_cmp) m → from_entries m.entries ≡ state.repositories
    → (lines : List LookLine) → lines ≡ flat_map (λ (e : Name × Repository). repo_lines ps rules user (listed_repo e)) m.entries ++ pattern_lines rules.rules user → lines ≡ lines_for ps rules state user
lines_due ps rules state user m sorted is lines made =
    made
    ∙ ap (λ (l : List LookLine). l ++ pattern_lines rules.rules user)
    (sym (flat_map_map (repo_lines ps rules user) listed_repo m.entries)
    ∙ ap (λ (es : List (Name × Repository)). flat_map (repo_lines ps rules user) (map listed_repo es)) (sym (ap (λ (n : ByName Repository). entries n) (sym is) ∙ entries-of m sorted)))
