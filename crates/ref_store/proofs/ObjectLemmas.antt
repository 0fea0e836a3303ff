-- Where a name stands first in a list of objects.
use Rattle.std.proofs.Common.{◌≡◌, ℕ, zero, suc, ◌+◌, ◌-◌, ◌<◌, ◌≤◌, Bool, true, false, ◌&&◌, ◌||◌, cond, nat_eq, nat_lt, List, [], ◌∷◌, ◌++◌, take, length, get_or, Option, None, Some, refl, sym, ◌∙◌, ap, arith, ◌⊎◌, inl, inr}
use Rattle.std.proofs.lemmas.Bool.Decides.{nat_tests}
use Rattle.std.proofs.lemmas.Cmp.{nat_list_eq_equiv}
use Rattle.std.specs.Prelude.{slice_get, is_some}
use Rattle.std.specs.Option.{option_map}
use lib.Pointwise.{pointwise}
use Rattle.git_object.specs.Content.{Content}
use Rattle.git_object.specs.declared.kind.Kind.TheVariants.{Blob}
use Rattle.git_object.specs.Object.{object_name}
use Rattle.git_object.specs.declared.object_id.ObjectId.{ObjectId}
use Rattle.ref_store.specs.Objects.{same_id, has_object, first_named, place_of}

pub both_true : (a b : Bool) → (a && b) ≡ true → (a ≡ true) × (b ≡ true)
both_true true b is = (refl, is)
both_true false b is = cc

pub same_bytes : (xs ys : List ℕ) → pointwise nat_eq xs ys ≡ true → xs ≡ ys
same_bytes [] [] is = refl
same_bytes [] (y ∷ ys) is = cc
same_bytes (x ∷ xs) [] is = cc
same_bytes (x ∷ xs) (y ∷ ys) is =
    let parts = both_true (nat_eq x y) (pointwise nat_eq xs ys) is in
    let head : x ≡ y = grind (arith, nat_tests, parts.0) in
    let tail : xs ≡ ys = same_bytes xs ys parts.1 in
    cc

-- ids that are told to be the same are equal
pub id_is : (a b : ObjectId) → same_id a b ≡ true → a ≡ b
id_is a b is = ap (λ (bytes : List ℕ). record { bytes = bytes }) (same_bytes a.bytes b.bytes is)

pub id_itself : (a : ObjectId) → same_id a a ≡ true
id_itself a = nat_list_eq_equiv.refl a.bytes

-- what the place in a list says of its head and its tail
cases_some : (b : Bool) (p : Option ℕ) (i : ℕ) → cond b (Some 0) (option_map suc p) ≡ Some i → ((b ≡ true) × (i ≡ 0)) ⊎ ((b ≡ false) × ((j : ℕ) × (p ≡ Some j) × (i ≡ suc j)))
cases_some true p i is = inl (refl, cc)
cases_some false None i is = cc
cases_some false (Some j) i is = inr (refl, (j, refl, cc))

cases_none : (b : Bool) (p : Option ℕ) → cond b (Some 0) (option_map suc p) ≡ None → (b ≡ false) × (p ≡ None)
cases_none true p is = cc
cases_none false None is = (refl, refl)
cases_none false (Some j) is = cc

-- the place is within the list, and the object there has the name
pub place_there : (xs : List Content) (id : ObjectId) (i : ℕ) (d : Content) → place_of xs id ≡ Some i → (i < length xs) × (same_id id (object_name (get_or xs i d)) ≡ true)
place_there [] id i d is = cc
place_there (x ∷ xs) id i d is =
    elim (cases_some (same_id id (object_name x)) (place_of xs id) i is) [
      | inl w ↦ (omega (arith, w.1), ap (λ n. same_id id (object_name (get_or (x ∷ xs) n d))) w.1 ∙ w.0)
      | inr w ↦ let rest = place_there xs id w.1.0 d w.1.1 in (omega (arith, rest.0, w.1.2), ap (λ n. same_id id (object_name (get_or (x ∷ xs) n d))) w.1.2 ∙ rest.1)
    ]

-- no object before the place has the name
pub place_first : (xs : List Content) (id : ObjectId) (i : ℕ) → place_of xs id ≡ Some i → (k : ℕ) (d : Content) → k < i → same_id id (object_name (get_or xs k d)) ≡ false
place_first [] id i is k d below = cc
place_first (x ∷ xs) id i is zero d below =
    elim (cases_some (same_id id (object_name x)) (place_of xs id) i is) [
      | inl w ↦ absurd (omega (arith, w.1, below))
      | inr w ↦ w.0
    ]
place_first (x ∷ xs) id i is (suc k) d below =
    elim (cases_some (same_id id (object_name x)) (place_of xs id) i is) [
      | inl w ↦ absurd (omega (arith, w.1, below))
      | inr w ↦ place_first xs id w.1.0 w.1.1 k d (omega (arith, w.1.2, below))
    ]

-- where a name has no place, no object has it
pub place_none : (xs : List Content) (id : ObjectId) → place_of xs id ≡ None → (k : ℕ) (d : Content) → k < length xs → same_id id (object_name (get_or xs k d)) ≡ false
place_none [] id is k d below = absurd (omega (arith, below))
place_none (x ∷ xs) id is zero d below = (cases_none (same_id id (object_name x)) (place_of xs id) is).0
place_none (x ∷ xs) id is (suc k) d below = place_none xs id (cases_none (same_id id (object_name x)) (place_of xs id) is).1 k d (omega (arith, below))

-- a name that has a place keeps it
pub place_kept : (xs ys : List Content) (id : ObjectId) (i : ℕ) → place_of xs id ≡ Some i → place_of (xs ++ ys) id ≡ Some i
place_kept [] ys id i is = cc
place_kept (x ∷ xs) ys id i is =
    elim (cases_some (same_id id (object_name x)) (place_of xs id) i is) [
      | inl w ↦ ap (λ b. cond b (Some 0) (option_map suc (place_of (xs ++ ys) id))) w.0 ∙ ap Some (sym w.1)
      | inr w ↦ ap (λ b. cond b (Some 0) (option_map suc (place_of (xs ++ ys) id))) w.0 ∙ ap (option_map suc) (place_kept xs ys id w.1.0 w.1.1) ∙ ap Some (sym w.1.2)
    ]

-- a name that has none stands where it does behind
pub place_behind : (xs ys : List Content) (id : ObjectId) → place_of xs id ≡ None → place_of (xs ++ ys) id ≡ option_map (λ i. length xs + i) (place_of ys id)
place_behind [] ys id is = elim (place_of ys id) as (λ p. p ≡ option_map (λ i. 0 + i) p) [ None ↦ refl | Some i ↦ ap Some (omega arith) ]
place_behind (x ∷ xs) ys id is =
    let parts = cases_none (same_id id (object_name x)) (place_of xs id) is in
    ap (λ b. cond b (Some 0) (option_map suc (place_of (xs ++ ys) id))) parts.0
    ∙ ap (option_map suc) (place_behind xs ys id parts.1)
    ∙ elim (place_of ys id) as (λ p. option_map suc (option_map (λ i. length xs + i) p) ≡ option_map (λ i. length (x ∷ xs) + i) p) [ None ↦ refl | Some i ↦ ap Some (omega arith) ]

-- among the first so many
abbrev pub within : ℕ → Option ℕ → Option ℕ
within k None = None
within k (Some i) = cond (nat_lt i k) (Some i) None

pub within_yes : (k i : ℕ) → i < k → within k (Some i) ≡ Some i
within_yes k i below = let is : nat_lt i k ≡ true = grind (arith, nat_tests) in ap (λ b. cond b (Some i) None) is

pub within_no : (k i : ℕ) → k ≤ i → within k (Some i) ≡ None
within_no k i past = let is : nat_lt i k ≡ false = grind (arith, nat_tests) in ap (λ b. cond b (Some i) None) is

within_zero : (p : Option ℕ) → None ≡ within 0 p
within_zero None = refl
within_zero (Some i) = sym (within_no 0 i (omega arith))

within_more : (b : Bool) (p : Option ℕ) (k : ℕ) → cond b (Some 0) (option_map suc (within k p)) ≡ within (suc k) (cond b (Some 0) (option_map suc p))
within_more true p k = sym (within_yes (suc k) 0 (omega arith))
within_more false None k = refl
within_more false (Some i) k =
    let is : nat_lt (suc i) (suc k) ≡ nat_lt i k = grind (arith, nat_tests) in
    elim (nat_lt i k) as (λ b. nat_lt (suc i) (suc k) ≡ b → option_map suc (cond b (Some i) None) ≡ cond (nat_lt (suc i) (suc k)) (Some (suc i)) None) [
      | true ↦ λ e. ap (λ b. cond b (Some (suc i)) None) (sym e)
      | false ↦ λ e. ap (λ b. cond b (Some (suc i)) None) (sym e)
    ] is

pub place_take : (k : ℕ) (xs : List Content) (id : ObjectId) → place_of (take k xs) id ≡ within k (place_of xs id)
place_take zero xs id = within_zero (place_of xs id)
place_take (suc k) [] id = refl
place_take (suc k) (x ∷ xs) id =
    ap (λ p. cond (same_id id (object_name x)) (Some 0) (option_map suc p)) (place_take k xs id) ∙ within_more (same_id id (object_name x)) (place_of xs id) k

-- the object of the name that stands first is the one at its place
pub first_there : (xs : List Content) (id : ObjectId) (i : ℕ) → place_of xs id ≡ Some i → first_named xs id ≡ slice_get xs i
first_there [] id i is = cc
first_there (x ∷ xs) id i is =
    elim (cases_some (same_id id (object_name x)) (place_of xs id) i is) [
      | inl w ↦ ap (λ b. cond b (Some x) (first_named xs id)) w.0 ∙ ap (slice_get (x ∷ xs)) (sym w.1)
      | inr w ↦ ap (λ b. cond b (Some x) (first_named xs id)) w.0 ∙ first_there xs id w.1.0 w.1.1 ∙ ap (slice_get (x ∷ xs)) (sym w.1.2)
    ]

pub first_none : (xs : List Content) (id : ObjectId) → place_of xs id ≡ None → first_named xs id ≡ None
first_none [] id is = refl
first_none (x ∷ xs) id is =
    let parts = cases_none (same_id id (object_name x)) (place_of xs id) is in
    ap (λ b. cond b (Some x) (first_named xs id)) parts.0 ∙ first_none xs id parts.1

pub slice_get_take : (k : ℕ) (xs : List Content) (i : ℕ) → i < k → slice_get (take k xs) i ≡ slice_get xs i
slice_get_take zero xs i below = absurd (omega (arith, below))
slice_get_take (suc k) [] i below = refl
slice_get_take (suc k) (x ∷ xs) zero below = refl
slice_get_take (suc k) (x ∷ xs) (suc i) below = slice_get_take k xs i (omega (arith, below))

-- an object more: where its name is new it stands there, and else nothing changes
pub place_new : (xs : List Content) (o : Content) → place_of xs (object_name o) ≡ None → (id : ObjectId) → place_of (xs ++ o ∷ []) id ≡ cond (same_id (object_name o) id) (Some (length xs)) (place_of xs id)
place_new xs o absent id = by_place (place_of xs id) refl (same_id (object_name o) id) refl
  where
    by_place : (p : Option ℕ) → place_of xs id ≡ p → (b : Bool) → same_id (object_name o) id ≡ b → place_of (xs ++ o ∷ []) id ≡ cond b (Some (length xs)) (place_of xs id)
    by_place None none true same = place_behind xs (o ∷ []) id none ∙ ap (λ b. option_map (λ i. length xs + i) (cond b (Some 0) None)) (nat_list_eq_equiv.symm id.bytes (object_name o).bytes ∙ same) ∙ ap Some (omega arith)
    by_place None none false other = place_behind xs (o ∷ []) id none ∙ ap (λ b. option_map (λ i. length xs + i) (cond b (Some 0) None)) (nat_list_eq_equiv.symm id.bytes (object_name o).bytes ∙ other) ∙ sym none
    by_place (Some i) some true same = let e = id_is (object_name o) id same in let none : place_of xs id ≡ None = ap (place_of xs) (sym e) ∙ absent in cc
    by_place (Some i) some false other = place_kept xs (o ∷ []) id i some ∙ sym some

pub place_old : (xs : List Content) (o : Content) (i : ℕ) → place_of xs (object_name o) ≡ Some i → (id : ObjectId) → place_of (xs ++ o ∷ []) id ≡ place_of xs id
place_old xs o i there id = by_place (place_of xs id) refl (same_id id (object_name o)) refl
  where
    by_place : (p : Option ℕ) → place_of xs id ≡ p → (b : Bool) → same_id id (object_name o) ≡ b → place_of (xs ++ o ∷ []) id ≡ place_of xs id
    by_place None none true same = let e = id_is id (object_name o) same in let some : place_of xs id ≡ Some i = ap (place_of xs) e ∙ there in cc
    by_place None none false other = place_behind xs (o ∷ []) id none ∙ ap (λ b. option_map (λ i. length xs + i) (cond b (Some 0) None)) other ∙ sym none
    by_place (Some j) some b is = place_kept xs (o ∷ []) id j some ∙ sym some

-- an object more whose name is there, which is put back in its place
pub place_back : (xs : List Content) (o : Content) (i at : ℕ) → place_of xs (object_name o) ≡ Some i → (id : ObjectId)
    → cond (same_id (object_name o) id) (Some i) (cond (same_id (object_name o) id) (Some at) (place_of xs id)) ≡ place_of (xs ++ o ∷ []) id
place_back xs o i at there id = by_name (same_id (object_name o) id) refl ∙ sym (place_old xs o i there id)
  where
    by_name : (b : Bool) → same_id (object_name o) id ≡ b → cond b (Some i) (cond b (Some at) (place_of xs id)) ≡ place_of xs id
    by_name true same = let e = id_is (object_name o) id same in sym there ∙ ap (place_of xs) e
    by_name false other = refl

pub absent_from : (p : Option ℕ) → is_some p ≡ false → p ≡ None
absent_from None is = refl
absent_from (Some i) is = cc

pub present_from : (p : Option ℕ) → is_some p ≡ true → (i : ℕ) × (p ≡ Some i)
present_from None is = cc
present_from (Some i) is = (i, refl)

-- a place among the first so many is below their number
pub place_within : (k : ℕ) (xs : List Content) (id : ObjectId) (i : ℕ) → place_of (take k xs) id ≡ Some i → i < k
place_within zero xs id i is = cc
place_within (suc k) [] id i is = cc
place_within (suc k) (x ∷ xs) id i is =
    elim (cases_some (same_id id (object_name x)) (place_of (take k xs) id) i is) [
      | inl w ↦ omega (arith, w.1)
      | inr w ↦ omega (arith, w.1.2, place_within k xs id w.1.0 w.1.1)
    ]

within_some : (k : ℕ) (p : Option ℕ) (i : ℕ) → within k p ≡ Some i → (p ≡ Some i) × (i < k)
within_some k None i is = cc
within_some k (Some j) i is = by_test (nat_lt j k) refl is
  where
    by_test : (b : Bool) → nat_lt j k ≡ b → cond b (Some j) None ≡ Some i → (Some j ≡ Some i) × (i < k)
    by_test true e same = let j_is : j ≡ i = cc in (same, grind (arith, nat_tests))
    by_test false e same = cc

within_none : (k i : ℕ) → within k (Some i) ≡ None → k ≤ i
within_none k i is = by_test (nat_lt i k) refl is
  where
    by_test : (b : Bool) → nat_lt i k ≡ b → cond b (Some i) None ≡ None → k ≤ i
    by_test true e same = cc
    by_test false e same = grind (arith, nat_tests)

within_moved : (len k : ℕ) (p : Option ℕ) → within k (option_map (λ i. len + i) p) ≡ option_map (λ i. len + i) (within (k - len) p)
within_moved len k None = refl
within_moved len k (Some j) =
    let is : nat_lt (len + j) k ≡ nat_lt j (k - len) = grind (arith, nat_tests) in
    ap (λ b. cond b (Some (len + j)) None) is ∙ elim (nat_lt j (k - len)) as (λ b. cond b (Some (len + j)) None ≡ option_map (λ i. len + i) (cond b (Some j) None)) [ true ↦ refl | false ↦ refl ]

-- among the first so many of two lists, a name stands where it does in the first
pub before_kept : (k : ℕ) (xs ys : List Content) (id : ObjectId) (i : ℕ) → place_of (take k xs) id ≡ Some i → place_of (take k (xs ++ ys)) id ≡ Some i
before_kept k xs ys id i is =
    let parts = within_some k (place_of xs id) i (sym (place_take k xs id) ∙ is) in
    place_take k (xs ++ ys) id ∙ ap (within k) (place_kept xs ys id i parts.0) ∙ within_yes k i parts.1

-- or else where it does in the second
pub before_behind : (k : ℕ) (xs ys : List Content) (id : ObjectId) → place_of (take k xs) id ≡ None → place_of (take k (xs ++ ys)) id ≡ option_map (λ i. length xs + i) (place_of (take (k - length xs) ys) id)
before_behind k xs ys id is = by_place (place_of xs id) refl
  where
    none_among : within k (place_of xs id) ≡ None
    none_among = sym (place_take k xs id) ∙ is

    by_place : (p : Option ℕ) → place_of xs id ≡ p → place_of (take k (xs ++ ys)) id ≡ option_map (λ i. length xs + i) (place_of (take (k - length xs) ys) id)
    by_place None none =
        place_take k (xs ++ ys) id
        ∙ ap (within k) (place_behind xs ys id none)
        ∙ within_moved (length xs) k (place_of ys id)
        ∙ ap (option_map (λ i. length xs + i)) (sym (place_take (k - length xs) ys id))
    by_place (Some i) some =
        let past = within_none k i (ap (within k) (sym some) ∙ none_among) in
        let below = (place_there xs id i (record { kind = Blob; body = [] }) some).0 in
        let zero_left : k - length xs ≡ 0 = omega (arith, past, below) in
        place_take k (xs ++ ys) id
        ∙ ap (within k) (place_kept xs ys id i some)
        ∙ within_no k i past
        ∙ ap (λ n. option_map (λ i. length xs + i) (place_of (take n ys) id)) (sym zero_left)

-- the object at the place of a name
pub object_there : (k : ℕ) (xs : List Content) (id : ObjectId) (i : ℕ) → place_of (take k xs) id ≡ Some i → i < length xs
object_there k xs id i is =
    let parts = within_some k (place_of xs id) i (sym (place_take k xs id) ∙ is) in
    (place_there xs id i (record { kind = Blob; body = [] }) parts.0).0

pub get_kept : (xs ys : List Content) (i : ℕ) (o : Content) → slice_get xs i ≡ Some o → slice_get (xs ++ ys) i ≡ Some o
get_kept [] ys i o is = cc
get_kept (x ∷ xs) ys zero o is = is
get_kept (x ∷ xs) ys (suc i) o is = get_kept xs ys i o is

pub get_behind : (xs ys : List Content) (i : ℕ) → slice_get (xs ++ ys) (length xs + i) ≡ slice_get ys i
get_behind [] ys i = ap (slice_get ys) (omega arith)
get_behind (x ∷ xs) ys i = let e : length (x ∷ xs) + i ≡ suc (length xs + i) = omega arith in ap (slice_get (x ∷ (xs ++ ys))) e ∙ get_behind xs ys i

chosen_kept : (b : Bool) (x o : Content) (p q : Option Content) → (p ≡ Some o → q ≡ Some o) → cond b (Some x) p ≡ Some o → cond b (Some x) q ≡ Some o
chosen_kept true x o p q rest is = is
chosen_kept false x o p q rest is = rest is

pub first_kept : (xs ys : List Content) (id : ObjectId) (o : Content) → first_named xs id ≡ Some o → first_named (xs ++ ys) id ≡ Some o
first_kept [] ys id o is = cc
first_kept (x ∷ xs) ys id o is = chosen_kept (same_id id (object_name x)) x o (first_named xs id) (first_named (xs ++ ys) id) (first_kept xs ys id o) is

chosen_behind : (b : Bool) (x : Content) (p q r : Option Content) → (p ≡ None → q ≡ r) → cond b (Some x) p ≡ None → cond b (Some x) q ≡ r
chosen_behind true x p q r rest is = cc
chosen_behind false x p q r rest is = rest is

pub first_behind : (xs ys : List Content) (id : ObjectId) → first_named xs id ≡ None → first_named (xs ++ ys) id ≡ first_named ys id
first_behind [] ys id is = refl
first_behind (x ∷ xs) ys id is = chosen_behind (same_id id (object_name x)) x (first_named xs id) (first_named (xs ++ ys) id) (first_named ys id) (first_behind xs ys id) is

-- an object is at each place below the length
pub no_object : (xs : List Content) (i : ℕ) → i < length xs → None ≡ slice_get xs i → ⊥
no_object [] i below is = omega (arith, below)
no_object (x ∷ xs) zero below is = cc
no_object (x ∷ xs) (suc i) below is = no_object xs i (omega (arith, below)) is

pub has_none : (xs : List Content) (id : ObjectId) → place_of xs id ≡ None → has_object xs id ≡ false
has_none [] id is = refl
has_none (x ∷ xs) id is =
    let parts = cases_none (same_id id (object_name x)) (place_of xs id) is in
    ap (λ b. b || has_object xs id) parts.0 ∙ has_none xs id parts.1

pub has_some : (xs : List Content) (id : ObjectId) (i : ℕ) → place_of xs id ≡ Some i → has_object xs id ≡ true
has_some [] id i is = cc
has_some (x ∷ xs) id i is =
    elim (cases_some (same_id id (object_name x)) (place_of xs id) i is) [
      | inl w ↦ ap (λ b. b || has_object xs id) w.0
      | inr w ↦ ap (λ b. b || has_object xs id) w.0 ∙ has_some xs id w.1.0 w.1.1
    ]
