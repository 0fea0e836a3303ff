-- Walks along parents that end at low generations and at what is past.
use Rattle.std.proofs.Common.{◌≡◌, ◌⊎◌, inl, inr, ℕ, ◌<◌, ◌≤◌, nat_lt, Bool, true, false, ◌||◌, cond, List, [], ◌∷◌, ◌++◌, Option, None, Some, Contains, refl, sym, ◌∙◌, ap, subst, arith, length-append}
use Rattle.std.proofs.lemmas.Bool.Decides.{nat_tests}
use Rattle.std.specs.Option.{option_map_or}
use Rattle.std.specs.List.{list_any}
use Rattle.git_object.specs.Content.{Content}
use Rattle.git_object.specs.declared.object_id.ObjectId.{ObjectId}
use Rattle.git_object.specs.Object.{parents_of}
use Rattle.ref_store.specs.Objects.{first_named, same_id}
use Rattle.ref_store.proofs.ObjectLemmas.{id_is, id_itself}
use Rattle.ancestry.specs.declared.known.Known.{Known}
use Rattle.ancestry.specs.Ancestors.{parents_at, IsAncestor, IsLine, BringsMerge, HasMerge}
use Rattle.ancestry.specs.Generations.{HasGeneration, generation_in, is_low, parents_above, IsFloor, IsAtLeast, ArePast, HasLow, IsHigh, AreHigh}
use Rattle.ancestry.specs.IdSet.{Adds}
use Rattle.ancestry.specs.Known.{AreKnown}
use Rattle.ancestry.specs.Reached.{IsReached, Root, Next}
use Rattle.ancestry.proofs.GenerationLemmas.{lines_join, one_generation, ancestor_lower}
use Rattle.ancestry.proofs.LineLemmas.{further, line_of}
use Rattle.ancestry.proofs.ListLemmas.{contains_none, contains_here, contains_one, any_contains, contains_any}
use Rattle.ancestry.proofs.TableLemmas.{first_is_one}

pub generation_known : (objects : List Content) (known : Known) (id : ObjectId) (n : ℕ) → AreKnown objects known → generation_in known id ≡ Some n → HasGeneration objects id n
generation_known objects known id n are is = (are.whole id n (first_is_one known.whole id n is)).1

-- what is low has a generation that is known
pub low_known : (known : Known) (least : ℕ) (id : ObjectId) → is_low known least id ≡ true → (n : ℕ) × (generation_in known id ≡ Some n) × (n < least)
low_known known least id low = by_generation (generation_in known id) refl low
  where
    by_generation : (o : Option ℕ) → generation_in known id ≡ o → option_map_or (λ generation. nat_lt generation least) o false ≡ true → (n : ℕ) × (generation_in known id ≡ Some n) × (n < least)
    by_generation None e is = let bad : false ≡ true = is in cc
    by_generation (Some n) e is = (n, e, grind (arith, nat_tests, is))

any_of : (past : List ObjectId) (id : ObjectId) → list_any (same_id id) past ≡ true → Contains past id
any_of past id t = let found = any_contains (same_id id) past t in subst (λ (i : ObjectId). Contains past i) (sym (id_is id found.0 found.2)) found.1

module _ (objects : List Content) (known : Known) (least : ℕ) (past : List ObjectId) where
  pub above_low : (id : ObjectId) → is_low known least id ≡ true → parents_above objects known least past id ≡ []
  above_low id low = ap (λ (b : Bool). cond (b || list_any (same_id id) past) [] (parents_at objects id)) low

  pub above_past : (id : ObjectId) → is_low known least id ≡ false → Contains past id → parents_above objects known least past id ≡ []
  above_past id not_low c =
      ap (λ (b : Bool). cond (b || list_any (same_id id) past) [] (parents_at objects id)) not_low
      ∙ ap (λ (b : Bool). cond b [] (parents_at objects id)) (contains_any (same_id id) past id c (id_itself id))

  pub above_on : (id : ObjectId) → is_low known least id ≡ false → ¬ Contains past id → parents_above objects known least past id ≡ parents_at objects id
  above_on id not_low not_past = ap (λ (b : Bool). cond (b || list_any (same_id id) past) [] (parents_at objects id)) not_low ∙ by_test (list_any (same_id id) past) refl
    where
      by_test : (b : Bool) → list_any (same_id id) past ≡ b → cond (list_any (same_id id) past) [] (parents_at objects id) ≡ parents_at objects id
      by_test true t = absurd (not_past (any_of past id t))
      by_test false t = ap (λ (b : Bool). cond b [] (parents_at objects id)) t

  above_some : (id to : ObjectId) → Contains (parents_above objects known least past id) to → Contains (parents_at objects id) to
  above_some id to c = by_test (is_low known least id || list_any (same_id id) past) c
    where
      by_test : (b : Bool) → Contains (cond b [] (parents_at objects id)) to → Contains (parents_at objects id) to
      by_test true c = absurd (contains_none to c)
      by_test false c = c

  module _ (root : ObjectId) where
    abbrev Above : ObjectId → Type 0
    Above = IsReached (parents_above objects known least past) (root ∷ [])

    pub above_is : (id : ObjectId) → Above id → IsAncestor objects id root
    above_is id (Root from c) = Root id c
    above_is id (Next from to is link) = Next from id (above_is from is) (above_some from id link)

    -- where the walk stopped short of it
    abbrev StoppedAt : ObjectId → ObjectId → Type 0
    StoppedAt id stop = Above stop × ((is_low known least stop ≡ true) ⊎ Contains past stop) × IsAncestor objects id stop

    goes_on : (from to : ObjectId) → Above from → Contains (parents_at objects from) to → Above to ⊎ ((is_low known least from ≡ true) ⊎ Contains past from)
    goes_on from to is link = by_low (is_low known least from) refl
      where
        by_past : is_low known least from ≡ false → (b : Bool) → list_any (same_id from) past ≡ b → Above to ⊎ ((is_low known least from ≡ true) ⊎ Contains past from)
        by_past e true t = inr (inr (any_of past from t))
        by_past e false t =
            let on : parents_above objects known least past from ≡ parents_at objects from = ap (λ (b : Bool). cond (b || list_any (same_id from) past) [] (parents_at objects from)) e ∙ ap (λ (b : Bool). cond b [] (parents_at objects from)) t in
            inl (Next from to is (subst (λ (ids : List ObjectId). Contains ids to) (sym on) link))

        by_low : (b : Bool) → is_low known least from ≡ b → Above to ⊎ ((is_low known least from ≡ true) ⊎ Contains past from)
        by_low true e = inr (inl e)
        by_low false e = by_past e (list_any (same_id from) past) refl

    -- an ancestor is met, or the walk stopped short of it
    pub above_or_stopped : (id : ObjectId) → IsAncestor objects id root → Above id ⊎ ((stop : ObjectId) × StoppedAt id stop)
    above_or_stopped id (Root from c) = inl (Root id c)
    above_or_stopped id (Next from to is link) = elim (above_or_stopped from is) [
      | inl above ↦ elim (goes_on from id above link) [
        | inl further ↦ inl further
        | inr why ↦ inr (from, (above, why, Next from id (Root from (contains_here from [])) link))
      ]
      | inr stopped ↦ inr (stopped.0, (stopped.1.0, stopped.1.1, Next from id stopped.1.2 link))
    ]

    -- the old commit is met where it is an ancestor, if nothing else of its descendants stops the walk
    pub old_met : (old : ObjectId) → IsFloor objects known old least → ((id : ObjectId) → Contains past id → IsAncestor objects old id → id ≡ old) → IsAncestor objects old root → Above old
    old_met old floor only is = elim (above_or_stopped old is) [
      | inl above ↦ above
      | inr stopped ↦ elim stopped.1.1 [
        | inl low ↦ absurd (floor stopped.0 low stopped.1.2)
        | inr there ↦ subst Above (only stopped.0 there stopped.1.2) stopped.1.0
      ]
    ]

-- ---- the old commit itself

pub only_itself : (none itself : List ObjectId) (old : ObjectId) → none ≡ [] → Adds none itself (old ∷ []) → (id : ObjectId) → Contains itself id → id ≡ old
only_itself none itself old is adds id c = elim (adds.only id c) [
  | inl before ↦ absurd (contains_none id (subst (λ (ids : List ObjectId). Contains ids id) is before))
  | inr here ↦ sym (contains_one old id here)
]

pub itself_before : (objects : List Content) (none itself : List ObjectId) (old : ObjectId) → none ≡ [] → Adds none itself (old ∷ []) → (id : ObjectId) → Contains itself id → IsAncestor objects id old
itself_before objects none itself old is adds id c = subst (λ (i : ObjectId). IsAncestor objects i old) (sym (only_itself none itself old is adds id c)) (Root old (contains_here old []))

-- whether the old commit is met tells whether it is an ancestor
pub forward_is : (objects : List Content) (known : Known) (least : ℕ) (past line : List ObjectId) (old new : ObjectId) → IsFloor objects known old least → ((id : ObjectId) → Contains past id → IsAncestor objects old id → id ≡ old)
    → ((id : ObjectId) → (Contains line id → Above objects known least past new id) × (Above objects known least past new id → Contains line id)) → (is : Bool) → (is ≡ true → Contains line old) × (Contains line old → is ≡ true)
    → (is ≡ true → IsAncestor objects old new) × (IsAncestor objects old new → is ≡ true)
forward_is objects known least past line old new floor only met is contains = (
  λ t. above_is objects known least past new old ((met old).0 (contains.0 t)),
  λ ancestor. contains.1 ((met old).1 (old_met objects known least past new old floor only ancestor)),
)

-- where it has a generation nothing but itself is both before and behind it
pub same_of_both : (objects : List Content) (old : ObjectId) (n : ℕ) → HasGeneration objects old n → (id : ObjectId) → IsAncestor objects id old → IsAncestor objects old id → id ≡ old
same_of_both objects old n has id before behind = let back = line_of objects id old behind in by_line back.0 back.1
  where
    by_line : (line : List ObjectId) → IsLine objects id line old → id ≡ old
    by_line [] same = same
    by_line (next ∷ line) leads =
        let way = line_of objects old id before in
        let round = lines_join objects old way.0 id (next ∷ line) old way.1 leads in
        let most = has.most ((way.0 ++ next ∷ line) ++ has.longest.0) has.longest.1 (lines_join objects old (way.0 ++ next ∷ line) old has.longest.0 has.longest.1 round has.longest.2) in
        absurd (omega (arith, most, length-append (way.0 ++ next ∷ line) has.longest.0, length-append way.0 (next ∷ line), has.longest.3))

-- ---- floors

module _ (objects : List Content) (known : Known) (old : ObjectId) where
  pub floor_known : (n : ℕ) → AreKnown objects known → HasGeneration objects old n → IsFloor objects known old n
  floor_known n are has id low is =
      let told = low_known known n id low in
      let other = generation_known objects known id told.0 are told.1 in
      elim (ancestor_lower objects old id n told.0 is has other) [
        | inl same ↦
            let equal : n ≡ told.0 = one_generation objects old n told.0 has (subst (λ (i : ObjectId). HasGeneration objects i told.0) (sym same) other) in
            omega (arith, equal, told.2)
        | inr less ↦ omega (arith, less, told.2)
      ]

  pub floor_lower : (lower higher : ℕ) → lower ≤ higher → IsFloor objects known old higher → IsFloor objects known old lower
  floor_lower lower higher le floor id low is = let told = low_known known lower id low in floor id (low_of higher id told.0 told.1 (omega (arith, told.2, le))) is
    where
      low_of : (least : ℕ) (other : ObjectId) (n : ℕ) → generation_in known other ≡ Some n → n < least → is_low known least other ≡ true
      low_of least other n e less = ap (λ (o : Option ℕ). option_map_or (λ generation. nat_lt generation least) o false) e ∙ grind (arith, nat_tests)

  pub floor_above : (least : ℕ) → AreKnown objects known → IsAtLeast objects least old → IsFloor objects known old least
  floor_above least are above = floor_lower least above.0 above.2 (floor_known above.0 are above.1)

  pub floor_none : IsFloor objects known old 0
  floor_none id low is = let told = low_known known 0 id low in omega (arith, told.2)

-- ---- merges

pub high_known : (objects : List Content) (least n : ℕ) (id : ObjectId) → HasGeneration objects id n → least ≤ n → IsHigh objects least id
high_known objects least n id has le = (has.longest.0, has.longest.1, has.longest.2, omega (arith, le, has.longest.3))

pub high_child : (objects : List Content) (least : ℕ) (id : ObjectId) (commit : Content) (parent : ObjectId) → first_named objects id ≡ Some commit → Contains (parents_of commit.kind commit.body) parent → IsHigh objects least parent → IsHigh objects least id
high_child objects least id commit parent there among high = (parent ∷ high.0, high.1, (link, high.2), omega (arith, high.3))
  where
    link : Contains (parents_at objects id) parent
    link = subst (λ (f : Option Content). Contains (option_map_or (λ o. parents_of o.kind o.body) f []) parent) (sym there) among

-- what a walk from the old commit meets
pub past_met : (objects : List Content) (known : Known) (least : ℕ) (old : ObjectId) (past : List ObjectId) → AreKnown objects known
    → ((id : ObjectId) → (Contains past id → Above objects known least [] old id) × (Above objects known least [] old id → Contains past id)) → ArePast objects old least past
past_met objects known least old past are met = record {
  are = λ id c. above_is objects known least [] old id ((met id).0 c);
  all = λ id is. elim (above_or_stopped objects known least [] old id is) [
    | inl above ↦ inl ((met id).1 above)
    | inr stopped ↦ elim stopped.1.1 [ inl low ↦ inr (not_high id stopped.0 low stopped.1.2) | inr there ↦ absurd (contains_none stopped.0 there) ]
  ];
}
  where
    not_high : (id stop : ObjectId) → is_low known least stop ≡ true → IsAncestor objects id stop → ¬ IsHigh objects least id
    not_high id stop low is high =
        let told = low_known known least stop low in
        let has = generation_known objects known stop told.0 are told.1 in
        let way = line_of objects stop id is in
        let most = has.most (way.0 ++ high.0) high.1 (lines_join objects stop way.0 id high.0 high.1 way.1 high.2) in
        omega (arith, most, length-append way.0 high.0, told.2, high.3)

-- a walk from the new commit, down to a generation, and not on from what is past
module _ (objects : List Content) (known : Known) (least : ℕ) (old new : ObjectId) (past line : List ObjectId)
    (met : (id : ObjectId) → (Contains line id → Above objects known least past new id) × (Above objects known least past new id → Contains line id)) where
  -- an ancestor of the new commit alone is met, or the walk stopped short of it at a low generation
  fresh_or_low : ((id : ObjectId) → Contains past id → IsAncestor objects id old) → (id : ObjectId) → IsAncestor objects id new → ¬ IsAncestor objects id old → Contains line id ⊎ HasLow known least line past
  fresh_or_low are id is fresh = elim (above_or_stopped objects known least past new id is) [
    | inl above ↦ inl ((met id).1 above)
    | inr stopped ↦ elim stopped.1.1 [
      | inl low ↦ inr (stopped.0, (met stopped.0).1 stopped.1.0, low, λ c. fresh (behind stopped.0 stopped.1.2 c))
      | inr there ↦ absurd (fresh (behind stopped.0 stopped.1.2 there))
    ]
  ]
    where
      behind : (stop : ObjectId) → IsAncestor objects id stop → Contains past stop → IsAncestor objects id old
      behind stop is c = further objects stop old id is (are stop c)

  -- so is a merge that is brought
  pub merge_or_low : ((id : ObjectId) → Contains past id → IsAncestor objects id old) → BringsMerge objects old new → HasMerge objects line past ⊎ HasLow known least line past
  merge_or_low are brings = elim (fresh_or_low are brings.0 brings.1 brings.3) [
    | inl c ↦ inl (brings.0, c, brings.2, λ there. brings.3 (are brings.0 there))
    | inr low ↦ inr low
  ]

  -- where nothing is low, just those merges are brought that are met and aren't among all ancestors of the
  -- old commit
  pub merge_by_all : least ≡ 0 → ((id : ObjectId) → Contains past id → IsAncestor objects id old) → (all : List ObjectId) → ArePast objects old 0 all
      → (HasMerge objects line all → BringsMerge objects old new) × (BringsMerge objects old new → HasMerge objects line all)
  merge_by_all none are all all_are = (
    λ has. (
      has.0,
      above_is objects known least past new has.0 ((met has.0).0 has.1),
      has.2,
      λ before. elim (all_are.all has.0 before) [ inl there ↦ has.3 there | inr low ↦ low ([], has.0, refl, omega arith) ],
    ),
    λ brings. elim (fresh_or_low are brings.0 brings.1 brings.3) [
      | inl c ↦ (brings.0, c, brings.2, λ there. brings.3 (all_are.are brings.0 there))
      | inr low ↦ let told = low_known known least low.0 low.2 in absurd (omega (arith, told.2, none))
    ],
  )

  -- a merge that is met, and is high and not past, is brought
  pub merge_brought : (least_of_old : ℕ) (high : List ObjectId) → ArePast objects old least_of_old past → AreHigh objects least_of_old line high → HasMerge objects high past → BringsMerge objects old new
  merge_brought least_of_old high are highs has =
      let is = highs has.0 has.1 in (
        has.0,
        above_is objects known least past new has.0 ((met has.0).0 is.0),
        has.2,
        λ before. elim (are.all has.0 before) [ inl there ↦ has.3 there | inr low ↦ low is.1 ],
      )

-- one more that is high
pub high_more : (objects : List Content) (least : ℕ) (line before after : List ObjectId) (id : ObjectId) → AreHigh objects least line before → Adds before after (id ∷ []) → Contains line id → IsHigh objects least id → AreHigh objects least line after
high_more objects least line before after id were adds there high = λ other c. elim (adds.only other c) [
  | inl was ↦ were other was
  | inr here ↦ subst (λ (i : ObjectId). Contains line i × IsHigh objects least i) (contains_one id other here) (there, high)
]
