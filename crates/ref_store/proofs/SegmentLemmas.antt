-- Objects in segments: going through them, and joining them.
use Rattle.std.proofs.Common.{◌≡◌, ℕ, zero, suc, ◌+◌, ◌-◌, ◌*◌, ◌^◌, ◌<◌, ◌≤◌, Bool, true, false, cond, nat_lt, List, [], ◌∷◌, ◌++◌, take, drop, length, get_or, Option, None, Some, refl, sym, ◌∙◌, ap, subst, arith, length-append, append-nil, append_assoc}
use Rattle.std.proofs.lemmas.Bool.Decides.{nat_tests}
use Rattle.std.proofs.lemmas.List.{drop_more, take_more, drop_all}
use Rattle.std.proofs.Math.Nat.{pow-succ'}
use Rattle.std.proofs.Math.Pow.{pow_mono}
use Rattle.std.specs.Prelude.{slice_get}
use Rattle.std.specs.Option.{option_map}
use Rattle.git_object.specs.Content.{Content}
use Rattle.git_object.specs.declared.object_id.ObjectId.{ObjectId}
use Rattle.ref_store.specs.Objects.{first_named, place_of}
use Rattle.ref_store.specs.Segments.{all_of, before, joined, with_fresh, AreHalving, AreSegments}
use Rattle.ref_store.proofs.ObjectLemmas.{before_kept, before_behind, get_kept, get_behind, first_kept, first_behind}

abbrev pub Segs : Type 0
Segs = List (List Content)

-- what is left of the segments from one on
pub one_left : (ss : Segs) (i : ℕ) (s : List Content) → i < length ss → s ≡ get_or ss i s → all_of (drop i ss) ≡ s ++ all_of (drop (i + 1) ss)
one_left ss i s below is = ap all_of (drop_more ss i s below) ∙ ap (λ t. t ++ all_of (drop (i + 1) ss)) (sym is)

-- the same of a table lent from the segment
pub table_left : (items ss : Segs) (i : ℕ) (s t : List Content) → items ≡ ss → i < length items → s ≡ get_or items i s → t ≡ s → all_of (drop i ss) ≡ t ++ all_of (drop (i + 1) ss)
table_left items ss i s t same below is lent =
    ap (λ ts. all_of (drop i ts)) (sym same) ∙ one_left items i s below is ∙ ap (λ ts. s ++ all_of (drop (i + 1) ts)) same ∙ ap (λ u. u ++ all_of (drop (i + 1) ss)) (sym lent)

pub none_left : (ss : Segs) (i : ℕ) → length ss ≤ i → all_of (drop i ss) ≡ []
none_left ss i past = ap all_of (drop_all i ss past)

pub get_within : (xs ys : List Content) (i : ℕ) → i < length xs → slice_get (xs ++ ys) i ≡ slice_get xs i
get_within [] ys i below = absurd (omega (arith, below))
get_within (x ∷ xs) ys zero below = refl
get_within (x ∷ xs) ys (suc i) below = get_within xs ys i (omega (arith, below))

pub get_past : (xs ys : List Content) (i : ℕ) → length xs ≤ i → slice_get (xs ++ ys) i ≡ slice_get ys (i - length xs)
get_past xs ys i past = let e : i ≡ length xs + (i - length xs) = omega (arith, past) in ap (slice_get (xs ++ ys)) e ∙ get_behind xs ys (i - length xs)

pub first_past : (all rest s rest2 : List Content) (id : ObjectId) → rest ≡ s ++ rest2 → first_named s id ≡ None → first_named all id ≡ first_named rest id → first_named all id ≡ first_named rest2 id
first_past all rest s rest2 id is absent so_far = so_far ∙ ap (λ os. first_named os id) is ∙ first_behind s rest2 id absent

pub first_here : (all rest s rest2 : List Content) (id : ObjectId) (o : Content) → rest ≡ s ++ rest2 → first_named s id ≡ Some o → first_named all id ≡ first_named rest id → first_named all id ≡ Some o
first_here all rest s rest2 id o is found so_far = so_far ∙ ap (λ os. first_named os id) is ∙ first_kept s rest2 id o found

-- a look-up that has gone through the first segments: what is left tells the answer
pub record Looked (all rest : List Content) (id : ObjectId) (among earlier : ℕ) : Type 0 where
  pub place : place_of (take among all) id ≡ option_map (λ i. earlier + i) (place_of (take (among - earlier) rest) id)
  pub there : (j : ℕ) → slice_get all (earlier + j) ≡ slice_get rest j
  pub size : earlier + length rest ≡ length all

from_start : (p : Option ℕ) → p ≡ option_map (λ i. 0 + i) p
from_start None = refl
from_start (Some i) = ap Some (omega arith)

pub looked_none : (all : List Content) (id : ObjectId) (among : ℕ) → Looked all all id among 0
looked_none all id among = record {
  place = from_start (place_of (take among all) id) ∙ ap (λ n. option_map (λ i. 0 + i) (place_of (take n all) id)) (omega arith);
  there = λ j. ap (slice_get all) (omega arith);
  size = omega arith;
}

shifted_twice : (a b : ℕ) (p : Option ℕ) → option_map (λ i. a + i) (option_map (λ i. b + i) p) ≡ option_map (λ i. (a + b) + i) p
shifted_twice a b None = refl
shifted_twice a b (Some i) = ap Some (omega arith)

-- a segment that hasn't the name
pub looked_more : (all rest s rest2 : List Content) (id : ObjectId) (among earlier : ℕ) → rest ≡ s ++ rest2 → place_of (take (among - earlier) s) id ≡ None → Looked all rest id among earlier → Looked all rest2 id among (earlier + length s)
looked_more all rest s rest2 id among earlier is absent looked = record {
  place =
      looked.place
      ∙ ap (λ os. option_map (λ i. earlier + i) (place_of (take (among - earlier) os) id)) is
      ∙ ap (option_map (λ i. earlier + i)) (before_behind (among - earlier) s rest2 id absent)
      ∙ shifted_twice earlier (length s) (place_of (take ((among - earlier) - length s) rest2) id)
      ∙ ap (λ n. option_map (λ i. (earlier + length s) + i) (place_of (take n rest2) id)) (omega arith);
  there = λ j. ap (slice_get all) (omega arith) ∙ looked.there (length s + j) ∙ ap (λ os. slice_get os (length s + j)) is ∙ get_behind s rest2 j;
  size = omega (arith, looked.size, ap length is, length-append s rest2);
}

-- a segment that has it
pub looked_found : (all rest s rest2 : List Content) (id : ObjectId) (among earlier at : ℕ) → rest ≡ s ++ rest2 → place_of (take (among - earlier) s) id ≡ Some at → Looked all rest id among earlier → place_of (take among all) id ≡ Some (earlier + at)
looked_found all rest s rest2 id among earlier at is found looked =
    looked.place
    ∙ ap (λ os. option_map (λ i. earlier + i) (place_of (take (among - earlier) os) id)) is
    ∙ ap (option_map (λ i. earlier + i)) (before_kept (among - earlier) s rest2 id at found)

pub looked_there : (all rest s rest2 : List Content) (id : ObjectId) (among earlier at : ℕ) (o : Content) → rest ≡ s ++ rest2 → slice_get s at ≡ Some o → Looked all rest id among earlier → slice_get all (earlier + at) ≡ Some o
looked_there all rest s rest2 id among earlier at o is found looked = looked.there at ∙ ap (λ os. slice_get os at) is ∙ get_kept s rest2 at o found

pub looked_size : (all rest s rest2 : List Content) (id : ObjectId) (among earlier : ℕ) → rest ≡ s ++ rest2 → Looked all rest id among earlier → earlier + length s ≤ length all
looked_size all rest s rest2 id among earlier is looked = omega (arith, looked.size, ap length is, length-append s rest2)

pub looked_all : (all rest : List Content) (id : ObjectId) (among earlier : ℕ) → rest ≡ [] → Looked all rest id among earlier → place_of (take among all) id ≡ None
looked_all all rest id among earlier is looked =
    looked.place ∙ ap (λ os. option_map (λ i. earlier + i) (place_of (take (among - earlier) os) id)) is ∙ by_count (among - earlier)
  where
    by_count : (n : ℕ) → option_map (λ i. earlier + i) (place_of (take n []) id) ≡ None
    by_count zero = refl
    by_count (suc n) = refl

-- what joining leaves of the list of all objects
all_of_before : (s : List Content) (more : Segs) → all_of (before s more) ≡ s ++ all_of more
all_of_before s [] = refl
all_of_before s (x ∷ []) = elim (nat_lt (length s) (2 * length x)) as (λ b. all_of (cond b ((s ++ x) ∷ []) (s ∷ x ∷ [])) ≡ s ++ (x ++ [])) [ true ↦ append_assoc s x [] | false ↦ refl ]
all_of_before s (x ∷ y ∷ r) = refl

all_of_joined : (ss : Segs) (last : List Content) → all_of (joined ss last) ≡ all_of ss ++ last
all_of_joined [] last = append-nil last
all_of_joined (s ∷ ss) last = all_of_before s (joined ss last) ∙ ap (λ os. s ++ os) (all_of_joined ss last) ∙ sym (append_assoc s (all_of ss) last)

all_with_fresh : (ss : Segs) (fresh : List Content) → all_of (with_fresh ss fresh) ≡ all_of ss ++ fresh
all_with_fresh ss [] = sym (append-nil (all_of ss))
all_with_fresh ss (o ∷ os) = all_of_joined ss (o ∷ os)

pub all_added : (ss after : Segs) (given fresh all : List Content) → after ≡ with_fresh ss given → given ≡ fresh → all ≡ all_of ss ++ fresh → all_of after ≡ all
all_added ss after given fresh all is same all_is = ap all_of is ∙ all_with_fresh ss given ∙ ap (λ os. all_of ss ++ os) same ∙ sym all_is

-- from the newest segment back
joined_small : (xs : Segs) (s last : List Content) → length s < 2 * length last → joined (xs ++ s ∷ []) last ≡ joined xs (s ++ last)
joined_small [] s last small = let is : nat_lt (length s) (2 * length last) ≡ true = grind (arith, nat_tests) in ap (λ b. cond b ((s ++ last) ∷ []) (s ∷ last ∷ [])) is
joined_small (x ∷ xs) s last small = ap (before x) (joined_small xs s last small)

before_two : (x y : List Content) (xs : Segs) (s : List Content) (r : Segs) → before x (y ∷ (xs ++ s ∷ r)) ≡ x ∷ y ∷ (xs ++ s ∷ r)
before_two x y [] s r = refl
before_two x y (z ∷ zs) s r = refl

joined_large : (xs : Segs) (s last : List Content) → 2 * length last ≤ length s → joined (xs ++ s ∷ []) last ≡ xs ++ s ∷ last ∷ []
joined_large [] s last large = let is : nat_lt (length s) (2 * length last) ≡ false = grind (arith, nat_tests) in ap (λ b. cond b ((s ++ last) ∷ []) (s ∷ last ∷ [])) is
joined_large (x ∷ []) s last large = ap (before x) (joined_large [] s last large)
joined_large (x ∷ y ∷ xs) s last large = ap (before x) (joined_large (y ∷ xs) s last large) ∙ before_two x y xs s (last ∷ [])

-- the segments from one on are joined with what is added
pub record Joined (ss : Segs) (fresh : List Content) (at size : ℕ) : Type 0 where
  pub within : at ≤ length ss
  pub is : joined ss fresh ≡ joined (take at ss) (all_of (drop at ss) ++ fresh)
  pub size_is : size ≡ length (all_of (drop at ss)) + length fresh
  pub bounded : size ≤ length (all_of ss) + length fresh

pub joined_none : (ss : Segs) (fresh : List Content) → take (length ss) ss ≡ ss → Joined ss fresh (length ss) (length fresh)
joined_none ss fresh whole =
    let e = none_left ss (length ss) (omega arith) in
    record {
      within = omega arith;
      is = ap (λ ts. joined ts fresh) (sym whole) ∙ ap (λ os. joined (take (length ss) ss) (os ++ fresh)) (sym e);
      size_is = omega (arith, ap length e);
      bounded = omega arith;
    }

-- the objects of the first segments, one more
pub one_more_of : (ss : Segs) (i : ℕ) (s : List Content) → i < length ss → s ≡ get_or ss i s → all_of (take i ss) ++ s ≡ all_of (take (i + 1) ss)
one_more_of ss i s below is = sym (ap all_of (take_more ss i s below ∙ ap (λ t. take i ss ++ t ∷ []) (sym is)) ∙ all_of_push (take i ss) s)
  where
    all_of_push : (xs : Segs) (t : List Content) → all_of (xs ++ t ∷ []) ≡ all_of xs ++ t
    all_of_push [] t = append-nil t
    all_of_push (x ∷ xs) t = ap (λ os. x ++ os) (all_of_push xs t) ∙ sym (append_assoc x (all_of xs) t)

left_of : (ss : Segs) (i : ℕ) → length (all_of (drop i ss)) ≤ length (all_of ss)
left_of ss zero = omega arith
left_of [] (suc i) = omega arith
left_of (s ∷ ss) (suc i) = omega (arith, left_of ss i, length-append s (all_of ss))

pub joined_more : (ss : Segs) (fresh : List Content) (at i size : ℕ) (s : List Content) → at ≡ i + 1 → s ≡ get_or ss i s → length s < 2 * size → Joined ss fresh at size → Joined ss fresh i (size + length s)
joined_more ss fresh at i size s at_is is small so_far =
    let below : i < length ss = omega (arith, so_far.within, at_is) in
    let last = all_of (drop at ss) ++ fresh in
    let taken : take at ss ≡ take i ss ++ s ∷ [] = ap (λ n. take n ss) at_is ∙ take_more ss i s below ∙ ap (λ t. take i ss ++ t ∷ []) (sym is) in
    let left : all_of (drop i ss) ≡ s ++ all_of (drop at ss) = one_left ss i s below is ∙ ap (λ n. s ++ all_of (drop n ss)) (sym at_is) in
    let fewer : length s < 2 * length last = omega (arith, small, so_far.size_is, length-append (all_of (drop at ss)) fresh) in
    let size_now : size + length s ≡ length (all_of (drop i ss)) + length fresh = omega (arith, so_far.size_is, ap length left, length-append s (all_of (drop at ss))) in
    record {
      within = omega (arith, below);
      is =
          so_far.is
          ∙ ap (λ ts. joined ts last) taken
          ∙ joined_small (take i ss) s last fewer
          ∙ ap (joined (take i ss)) (sym (append_assoc s (all_of (drop at ss)) fresh) ∙ ap (λ os. os ++ fresh) (sym left));
      size_is = size_now;
      bounded = omega (arith, size_now, left_of ss i);
    }

pub joined_here : (ss : Segs) (fresh : List Content) (at i size : ℕ) (s : List Content) → at ≡ i + 1 → s ≡ get_or ss i s → 2 * size ≤ length s → Joined ss fresh at size → joined ss fresh ≡ take at ss ++ (all_of (drop at ss) ++ fresh) ∷ []
joined_here ss fresh at i size s at_is is large so_far =
    let below : i < length ss = omega (arith, so_far.within, at_is) in
    let last = all_of (drop at ss) ++ fresh in
    let taken : take at ss ≡ take i ss ++ s ∷ [] = ap (λ n. take n ss) at_is ∙ take_more ss i s below ∙ ap (λ t. take i ss ++ t ∷ []) (sym is) in
    let enough : 2 * length last ≤ length s = omega (arith, large, so_far.size_is, length-append (all_of (drop at ss)) fresh) in
    so_far.is
    ∙ ap (λ ts. joined ts last) taken
    ∙ joined_large (take i ss) s last enough
    ∙ sym (append_assoc (take i ss) (s ∷ []) (last ∷ []))
    ∙ ap (λ ts. ts ++ last ∷ []) (sym taken)

pub joined_all : (ss : Segs) (fresh : List Content) (at size : ℕ) → at ≡ 0 → Joined ss fresh at size → joined ss fresh ≡ take at ss ++ (all_of (drop at ss) ++ fresh) ∷ []
joined_all ss fresh at size is so_far =
    let none : take at ss ≡ [] = ap (λ n. take n ss) is in
    so_far.is ∙ ap (λ ts. joined ts (all_of (drop at ss) ++ fresh)) none ∙ ap (λ ts. ts ++ (all_of (drop at ss) ++ fresh) ∷ []) (sym none)

-- joining keeps the sizes apart
before_first : (s x y : List Content) (more r : Segs) → before s more ≡ x ∷ y ∷ r → s ≡ x
before_first s x y [] r is = cc
before_first s x y (z ∷ []) r is = by_test (nat_lt (length s) (2 * length z)) is
  where
    by_test : (b : Bool) → cond b ((s ++ z) ∷ []) (s ∷ z ∷ []) ≡ x ∷ y ∷ r → s ≡ x
    by_test true e = cc
    by_test false e = cc
before_first s x y (z ∷ w ∷ more) r is = cc

before_halving : (s : List Content) (more : Segs) → AreHalving more → 0 < length s → ((x y : List Content) (r : Segs) → more ≡ x ∷ y ∷ r → 2 * length x ≤ length s) → AreHalving (before s more)
before_halving s [] halving some fits = some
before_halving s (x ∷ []) halving some fits = by_test (nat_lt (length s) (2 * length x)) refl
  where
    by_test : (b : Bool) → nat_lt (length s) (2 * length x) ≡ b → AreHalving (cond b ((s ++ x) ∷ []) (s ∷ x ∷ []))
    by_test true is = omega (arith, some, length-append s x)
    by_test false is = let large : 2 * length x ≤ length s = grind (arith, nat_tests) in (large, halving)
before_halving s (x ∷ y ∷ r) halving some fits = (fits x y r refl, halving)

halving_rest : (s : List Content) (ss : Segs) → AreHalving (s ∷ ss) → AreHalving ss
halving_rest s [] halving = tt
halving_rest s (t ∷ ss) halving = halving.1

halving_some : (s : List Content) (ss : Segs) → AreHalving (s ∷ ss) → 0 < length s
halving_some s [] halving = halving
halving_some s (t ∷ ss) halving = omega (arith, halving.0, halving_some t ss halving.1)

joined_fits : (s : List Content) (ss : Segs) (last : List Content) → AreHalving (s ∷ ss) → (x y : List Content) (r : Segs) → joined ss last ≡ x ∷ y ∷ r → 2 * length x ≤ length s
joined_fits s [] last halving x y r is = cc
joined_fits s (t ∷ ss) last halving x y r is = let e = before_first t x y (joined ss last) r is in omega (arith, halving.0, ap length e)

joined_halving : (ss : Segs) (last : List Content) → AreHalving ss → 0 < length last → AreHalving (joined ss last)
joined_halving [] last halving some = some
joined_halving (s ∷ ss) last halving some =
    before_halving s (joined ss last) (joined_halving ss last (halving_rest s ss halving) some) (halving_some s ss halving) (joined_fits s ss last halving)

pub fresh_halving : (ss : Segs) (fresh : List Content) → AreHalving ss → AreHalving (with_fresh ss fresh)
fresh_halving ss [] halving = halving
fresh_halving ss (o ∷ os) halving = joined_halving ss (o ∷ os) halving (omega arith)

-- what a list of segments keeps after adding
pub fresh_segments : (ss after : Segs) (fresh : List Content) (count : ℕ) → AreSegments ss count → count + length fresh ≤ 4294967295 → after ≡ with_fresh ss fresh → AreSegments after (count + length fresh)
fresh_segments ss after fresh count kept few is = subst (λ (ts : Segs). AreSegments ts (count + length fresh)) (sym is) (record {
  halving = fresh_halving ss fresh kept.halving;
  count_is = omega (arith, kept.count_is, ap length (all_with_fresh ss fresh), length-append (all_of ss) fresh);
  few = few;
})

with_some : (ss : Segs) (fresh : List Content) → 0 < length fresh → with_fresh ss fresh ≡ joined ss fresh
with_some ss [] some = absurd (omega (arith, some))
with_some ss (o ∷ os) some = refl

pub with_made : (ss items front back older after : Segs) (one fresh : List Content) (at : ℕ) → 0 < length fresh → items ≡ ss → joined ss fresh ≡ take at ss ++ (all_of (drop at ss) ++ fresh) ∷ [] → front ≡ take at items → back ≡ drop at items → older ≡ front → one ≡ all_of back ++ fresh → after ≡ older ++ one ∷ [] → after ≡ with_fresh ss fresh
with_made ss items front back older after one fresh at some same is front_is back_is older_is one_is after_is =
    let begin : older ≡ take at ss = older_is ∙ front_is ∙ ap (take at) same in
    let last : one ≡ all_of (drop at ss) ++ fresh = one_is ∙ ap (λ ts. all_of ts ++ fresh) (back_is ∙ ap (drop at) same) in
    after_is ∙ ap (λ ts. ts ++ one ∷ []) begin ∙ ap (λ s. take at ss ++ s ∷ []) last ∙ sym is ∙ sym (with_some ss fresh some)

-- so there are few
head_large : (s : List Content) (ss : Segs) → AreHalving (s ∷ ss) → 2 ^ length ss ≤ length s
head_large s [] halving = omega (arith, halving)
head_large s (t ∷ ss) halving = omega (arith, pow-succ' 2 (length ss), halving.0, head_large t ss halving.1)

pub all_large : (ss : Segs) → AreHalving ss → 2 ^ length ss ≤ length (all_of ss) + 1
all_large [] halving = omega arith
all_large (s ∷ ss) halving = omega (arith, pow-succ' 2 (length ss), head_large s ss halving, all_large ss (halving_rest s ss halving), length-append s (all_of ss))

pub none_of_none : (ss : Segs) → length ss ≡ 0 → all_of ss ≡ []
none_of_none [] is = refl
none_of_none (s ∷ ss) is = absurd (omega (arith, is))

pub at_most_32 : (n : ℕ) → 2 ^ n ≤ 4294967296 → n ≤ 32
at_most_32 n bound = by_test (nat_lt 32 n) refl
  where
    by_test : (b : Bool) → nat_lt 32 n ≡ b → n ≤ 32
    by_test true is =
        let many : 33 ≤ n = grind (arith, nat_tests) in
        let large : 2 ^ 33 ≤ 2 ^ n = pow_mono many in
        absurd (omega (arith, bound, large))
    by_test false is = grind (arith, nat_tests)
