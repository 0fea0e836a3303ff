-- A set of names tells which items a list has.
use Rattle.std.proofs.Common.{◌≡◌, ℕ, Bool, true, false, cond, List, [], ◌∷◌, ◌++◌, Option, Some, refl, sym, ap, ◌∙◌}
use Rattle.std.specs.Prelude.{◌||◌, is_some}
use Rattle.std.specs.Str.{bytes_eq}
use Rattle.std.specs.Ordering.{nat_cmp, eq_by_cmp}
use Rattle.std.specs.Cmp.Lexicographic.{slice_cmp, nat_list_cmp_total, texts_ties, nat_list_eq_equiv}
use Rattle.std.specs.FinMap as named
use Rattle.base_types.specs.Names.{ByName}
use Rattle.conf_groups.specs.Groups.{holds}

pub none_held : (word : List ℕ) → named.contains_key (named.empty {X = Bool} {R = slice_cmp nat_cmp}) word ≡ holds [] word
none_held word = ap is_some (named.get-empty (slice_cmp nat_cmp) word)

some_of : (b : Bool) (o : Option Bool) → is_some (cond b (Some true) o) ≡ (b || is_some o)
some_of true o = refl
some_of false o = refl

or_turned : (a b : Bool) → (a || b) ≡ (b || a)
or_turned true true = refl
or_turned true false = refl
or_turned false true = refl
or_turned false false = refl

or_assoc : (a b c : Bool) → (a || (b || c)) ≡ ((a || b) || c)
or_assoc true b c = refl
or_assoc false b c = refl

or_none : (a : Bool) → a ≡ (a || false)
or_none true = refl
or_none false = refl

pub holds_push : (items : List (List ℕ)) (item word : List ℕ) → holds (items ++ item ∷ []) word ≡ (holds items word || bytes_eq item word)
holds_push [] item word = sym (or_none (bytes_eq item word))
holds_push (x ∷ items) item word = ap (λ (b : Bool). bytes_eq x word || b) (holds_push items item word) ∙ or_assoc (bytes_eq x word) (holds items word) (bytes_eq item word)

pub held_with : (m : ByName Bool) (items : List (List ℕ)) (item word : List ℕ) → named.contains_key m word ≡ holds items word → named.contains_key (named.insert m item true) word ≡ holds (items ++ item ∷ []) word
held_with m items item word h =
    ap is_some (named.get-insert nat_list_cmp_total m item true word)
    ∙ some_of (eq_by_cmp (slice_cmp nat_cmp) word item) (named.get m word)
    ∙ ap (λ (b : Bool). eq_by_cmp (slice_cmp nat_cmp) word item || b) h
    ∙ ap (λ (b : Bool). b || holds items word) (sym (texts_ties word item) ∙ nat_list_eq_equiv.symm word item)
    ∙ or_turned (bytes_eq item word) (holds items word)
    ∙ sym (holds_push items item word)
