-- What the check of a tree keeps, and the first break.
use Rattle.std.proofs.Common.{◌≡◌, ℕ, zero, suc, ◌+◌, ◌<◌, ◌==◌, Bool, true, false, cond, ◌&&◌, not, List, [], ◌∷◌, ◌++◌, map, length, Option, Some, None, refl, sym, ◌∙◌, ap, subst, arith, Bor}
use Rattle.std.proofs.lemmas.List.{map-append}
use Rattle.std.specs.List.{list_any, slice_get}
use Rattle.std.specs.Option.{option_map, option_map_or}
use Rattle.std.specs.Str.{bytes_eq}
use Rattle.git_object.specs.Reader.{items, behind, items_within, behind_within}
use Rattle.git_object.specs.Tree.{Entry, entry_of, sorts_below, is_directory, may_follow, tree_entry, first_break, size}
use Rattle.git_object.specs.Before.{file_names, AllBelow, Rise, Keeps}
use Rattle.git_object.proofs.OrderLemmas.{all_below, same_name_is_file}
use Rattle.git_object.specs.declared.tree.TreeEntry.{TreeEntry}
use Rattle.git_object.specs.declared.tree.Before.{Before}
use Rattle.git_object.proofs.ReaderLemmas.{items-none, items-some, behind-none, behind-some}
use Rattle.git_object.proofs.TreeLemmas.{tree_entry-Shrinks}

-- whether an entry sorts above the nearest of those before
abbrev rises : Option TreeEntry → Entry → Bool
rises nearest e = option_map_or (λ n. sorts_below (entry_of n) e) nearest true

-- `may_follow` by the nearest entry and by the names
may_follow_parts : (nearest : Option TreeEntry) (before : List Entry) (e : Entry) → option_map entry_of nearest ≡ slice_get before 0
    → may_follow before e ≡ (rises nearest e && not (list_any (λ f. bytes_eq f.name e.name) before))
may_follow_parts None [] e h = refl
may_follow_parts (Some n) [] e h = absurd cc
may_follow_parts None (f ∷ fs) e h = absurd cc
may_follow_parts (Some n) (f ∷ fs) e h =
    let same : entry_of n ≡ f = cc in
    ap (λ g. sorts_below g e && not (list_any (λ f. bytes_eq f.name e.name) (f ∷ fs))) (sym same)

pub stops_falling : (kept : Before) (before : List Entry) (e : Entry) → Keeps kept before → rises kept.nearest e ≡ false → may_follow before e ≡ false
stops_falling kept before e keeps falls = may_follow_parts kept.nearest before e keeps.nearest ∙ ap (λ b. b && not (list_any (λ f. bytes_eq f.name e.name) before)) falls

-- all before sort below an entry that rises
all_before : (nearest : Option TreeEntry) (before : List Entry) (e : Entry) → option_map entry_of nearest ≡ slice_get before 0 → Rise before → rises nearest e ≡ true → AllBelow before e
all_before None [] e is rise up = tt
all_before (Some n) [] e is rise up = tt
all_before None (f ∷ fs) e is rise up = absurd cc
all_before (Some n) (f ∷ fs) e is rise up =
    let same : entry_of n ≡ f = cc in
    all_below f e fs rise (subst (λ (g : Entry). sorts_below g e ≡ true) same up)

pub rising : (kept : Before) (before : List Entry) (e : Entry) → Keeps kept before → rises kept.nearest e ≡ true → AllBelow before e
rising kept before e keeps up = all_before kept.nearest before e keeps.nearest keeps.rise up

-- an entry that rises may follow where it is no directory, or no file has its name
pub may_follow_rising : (kept : Before) (before : List Entry) (e : Entry) → Keeps kept before → rises kept.nearest e ≡ true → may_follow before e ≡ not (is_directory e && list_any (λ n. bytes_eq n e.name) (file_names before))
may_follow_rising kept before e keeps up =
    may_follow_parts kept.nearest before e keeps.nearest
    ∙ ap (λ b. b && not (list_any (λ f. bytes_eq f.name e.name) before)) up
    ∙ ap not (same_name_is_file before e (rising kept before e keeps up))

pub names_push : (old new : List (Bor (List ℕ))) (name : Bor (List ℕ)) (names : List (List ℕ)) → new ≡ old ++ name ∷ [] → map (λ f. f.now) old ≡ names → map (λ f. f.now) new ≡ names ++ name.now ∷ []
names_push old new name names push was =
    ap (λ (l : List (Bor (List ℕ))). map (λ f. f.now) l) push ∙ map-append (λ (f : Bor (List ℕ)). f.now) old (name ∷ []) ∙ ap (λ (l : List (List ℕ)). l ++ name.now ∷ []) was

-- ---- the first break, as the bytes are read

-- from the bytes that are left
abbrev pub break_from : List Entry → ℕ → List ℕ → Option ℕ
break_from before at bytes = first_break before at (items tree_entry bytes) (behind tree_entry bytes)

nil_break : (before : List Entry) (at : ℕ) → break_from before at [] ≡ None
unfolding items_within behind_within
nil_break before at = refl

pub break_from-nil : (before : List Entry) (at : ℕ) (bytes : List ℕ) → length bytes ≡ 0 → break_from before at bytes ≡ None
break_from-nil before at [] len = nil_break before at
break_from-nil before at (b ∷ bytes) len = absurd (omega arith)

pub break_from-none : (before : List Entry) (at : ℕ) (bytes : List ℕ) → 0 < length bytes → tree_entry bytes ≡ None → break_from before at bytes ≡ Some at
break_from-none before at [] len none = absurd (omega arith)
break_from-none before at (b ∷ bytes) len none = rw (items-none tree_entry (b ∷ bytes) none, behind-none tree_entry (b ∷ bytes) none) refl

pub break_from-some : (before : List Entry) (at : ℕ) (bytes rest : List ℕ) (e : Entry) → tree_entry bytes ≡ Some (e, rest)
    → break_from before at bytes ≡ cond (may_follow before e) (break_from (e ∷ before) (at + size e) rest) (Some at)
break_from-some before at bytes rest e some = rw (items-some tree_entry tree_entry-Shrinks bytes rest e some, behind-some tree_entry tree_entry-Shrinks bytes rest e some) refl

pub positive : (n : ℕ) → (n == 0) ≡ false → 0 < n
positive zero e = absurd cc
positive (suc n) e = omega arith

-- an entry that may not follow
pub break_from-stops : (before : List Entry) (at : ℕ) (bytes rest : List ℕ) (e : Entry) → tree_entry bytes ≡ Some (e, rest) → may_follow before e ≡ false → break_from before at bytes ≡ Some at
break_from-stops before at bytes rest e some not_may = break_from-some before at bytes rest e some ∙ ap (λ b. cond b (break_from (e ∷ before) (at + size e) rest) (Some at)) not_may

-- an entry that may
pub break_from-goes : (before : List Entry) (at next : ℕ) (bytes rest : List ℕ) (e : Entry) → tree_entry bytes ≡ Some (e, rest) → may_follow before e ≡ true → at + size e ≡ next
    → break_from before at bytes ≡ break_from (e ∷ before) next rest
break_from-goes before at next bytes rest e some may sum =
    break_from-some before at bytes rest e some
    ∙ ap (λ b. cond b (break_from (e ∷ before) (at + size e) rest) (Some at)) may
    ∙ ap (λ n. break_from (e ∷ before) n rest) sum
