-- Generations of commits.
use Rattle.std.proofs.Common.{◌≡◌, ◌⊎◌, inl, inr, ℕ, ◌+◌, ◌<◌, ◌≤◌, List, [], ◌∷◌, ◌++◌, length, max, Option, Some, Contains, refl, sym, ◌∙◌, ap, subst, arith, length-append}
use Rattle.std.proofs.lemmas.Bool.{cases_lt}
use Rattle.std.proofs.lemmas.List.Elements.{Contains-append_left, Contains-append_right, Contains-append_cases}
use Rattle.std.specs.Prelude.{IsSome}
use Rattle.std.specs.Option.{option_map_or}
use Rattle.git_object.specs.Content.{Content}
use Rattle.git_object.specs.Object.{parents_of}
use Rattle.git_object.specs.declared.object_id.ObjectId.{ObjectId}
use Rattle.ref_store.specs.Objects.{first_named}
use Rattle.ancestry.specs.Ancestors.{parents_at, IsAncestor, IsLine}
use Rattle.ancestry.specs.Generations.{HasGeneration, IsAfter}
use Rattle.ancestry.specs.Known.{Extends}
use Rattle.ancestry.proofs.LineLemmas.{line_of}
use Rattle.ancestry.proofs.ListLemmas.{contains_none, contains_here, contains_one}
use Rattle.ancestry.proofs.OptionLemmas.{some_of, is_some_of}

module _ (objects : List Content) where
  pub lines_join : (from : ObjectId) (one : List ObjectId) (by : ObjectId) (other : List ObjectId) (to : ObjectId) → IsLine objects from one by → IsLine objects by other to → IsLine objects from (one ++ other) to
  lines_join from [] by other to first second = subst (λ (i : ObjectId). IsLine objects i other to) (sym first) second
  lines_join from (next ∷ one) by other to first second = (first.0, lines_join next one by other to first.1 second)

  pub one_generation : (id : ObjectId) (m n : ℕ) → HasGeneration objects id m → HasGeneration objects id n → m ≡ n
  one_generation id m n one other = omega (arith, one.longest.3, other.longest.3, other.most one.longest.0 one.longest.1 one.longest.2, one.most other.longest.0 other.longest.1 other.longest.2)

  -- a line to an ancestor, and the longest from there
  longer_line : (ancestor id : ObjectId) (m n : ℕ) (line : List ObjectId) → IsLine objects id line ancestor → HasGeneration objects ancestor m → HasGeneration objects id n → length line + m ≤ n
  longer_line ancestor id m n line is low high =
      let joined = high.most (line ++ low.longest.0) low.longest.1 (lines_join id line ancestor low.longest.0 low.longest.1 is low.longest.2) in
      omega (arith, joined, length-append line low.longest.0, low.longest.3)

  pub ancestor_lower : (ancestor id : ObjectId) (m n : ℕ) → IsAncestor objects ancestor id → HasGeneration objects ancestor m → HasGeneration objects id n → (ancestor ≡ id) ⊎ (m < n)
  ancestor_lower ancestor id m n is low high = let line = line_of objects id ancestor is in by_line line.0 line.1
    where
      by_line : (line : List ObjectId) → IsLine objects id line ancestor → (ancestor ≡ id) ⊎ (m < n)
      by_line [] same = inl (sym same)
      by_line (next ∷ line) leads = let longer = longer_line ancestor id m n (next ∷ line) leads low high in inr (omega (arith, longer))

  -- one more than the parents' is the commit's
  pub generation_after : (id : ObjectId) (n : ℕ) → IsSome (first_named objects id) → IsAfter objects (parents_at objects id) n → HasGeneration objects id n
  generation_after id n here after = record {
    there = there;
    longest = by_least after.least;
    most = most;
  }
    where
      there : (line : List ObjectId) (to : ObjectId) → IsLine objects id line to → IsSome (first_named objects to)
      there [] to is = subst (λ (i : ObjectId). IsSome (first_named objects i)) is here
      there (next ∷ line) to is = (after.each next is.0).1.there line to is.1

      most : (line : List ObjectId) (to : ObjectId) → IsLine objects id line to → length line ≤ n
      most [] to is = omega arith
      most (next ∷ line) to is = let before = after.each next is.0 in omega (arith, before.2, before.1.most line to is.1)

      by_least : (n ≡ 0) ⊎ ((p : ObjectId) × (m : ℕ) × Contains (parents_at objects id) p × HasGeneration objects p m × (n ≡ m + 1)) → (line : List ObjectId) × (to : ObjectId) × IsLine objects id line to × (length line ≡ n)
      by_least (inl zero) = ([], id, refl, sym zero)
      by_least (inr last) = let longest = last.3.longest in (last.0 ∷ longest.0, longest.1, (last.2, longest.2), omega (arith, longest.3, last.4))

  pub generation_of_object : (id : ObjectId) (o : Content) (n : ℕ) → first_named objects id ≡ Some o → IsAfter objects (parents_of o.kind o.body) n → HasGeneration objects id n
  generation_of_object id o n there after =
      let parents : parents_at objects id ≡ parents_of o.kind o.body = ap (λ (f : Option Content). option_map_or (λ o. parents_of o.kind o.body) f []) there in
      generation_after id n (is_some_of (first_named objects id) o there) (subst (λ (ids : List ObjectId). IsAfter objects ids n) (sym parents) after)

  -- one parent after another
  abbrev Greatest : List ObjectId → ℕ → Type 0
  Greatest parents generation = (id : ObjectId) × (n : ℕ) × Contains parents id × HasGeneration objects id n × (generation ≡ n + 1)

  pub after_none : IsAfter objects [] 0
  after_none = record { each = λ id c. absurd (contains_none id c); least = inl refl }

  pub after_more : (parents : List ObjectId) (parent : ObjectId) (before generation after : ℕ) → IsAfter objects parents generation → HasGeneration objects parent before → after ≡ max generation (before + 1) → IsAfter objects (parents ++ parent ∷ []) after
  after_more parents parent before generation after were has is = record {
    each = λ id c. elim (Contains-append_cases parents (parent ∷ []) id c) [
      | inl among ↦ let one = were.each id among in (one.0, one.1, omega (arith, one.2, is))
      | inr last ↦ (before, subst (λ (i : ObjectId). HasGeneration objects i before) (contains_one parent id last) has, omega (arith, is))
    ];
    least = by_order (cases_lt generation (before + 1));
  }
    where
      by_least : before + 1 ≤ generation → (generation ≡ 0) ⊎ Greatest parents generation → (after ≡ 0) ⊎ Greatest (parents ++ parent ∷ []) after
      by_least less (inl zero) = absurd (omega (arith, less, zero))
      by_least less (inr one) = inr (one.0, one.1, Contains-append_left parents (parent ∷ []) one.0 one.2, one.3, omega (arith, less, one.4, is))

      by_order : (generation < before + 1) ⊎ (before + 1 ≤ generation) → (after ≡ 0) ⊎ Greatest (parents ++ parent ∷ []) after
      by_order (inl less) = inr (parent, before, Contains-append_right parents (parent ∷ []) parent (contains_here parent []), has, omega (arith, less, is))
      by_order (inr less) = by_least less were.least

-- as objects come
module _ (fewer more : List Content) (extends : Extends fewer more) where
  same_parents : (id : ObjectId) → IsSome (first_named fewer id) → parents_at more id ≡ parents_at fewer id
  same_parents id here =
      let some = some_of (first_named fewer id) here in
      ap (λ (f : Option Content). option_map_or (λ o. parents_of o.kind o.body) f []) (extends id some.0 some.1 ∙ sym some.1)

  line_forth : (from : ObjectId) (line : List ObjectId) (to : ObjectId) → ((l : List ObjectId) (i : ObjectId) → IsLine fewer from l i → IsSome (first_named fewer i)) → IsLine fewer from line to → IsLine more from line to
  line_forth from [] to there is = is
  line_forth from (next ∷ line) to there is = (
    subst (λ (ids : List ObjectId). Contains ids next) (sym (same_parents from (there [] from refl))) is.0,
    line_forth next line to (λ l i rest. there (next ∷ l) i (is.0, rest)) is.1,
  )

  line_back : (from : ObjectId) (line : List ObjectId) (to : ObjectId) → ((l : List ObjectId) (i : ObjectId) → IsLine fewer from l i → IsSome (first_named fewer i)) → IsLine more from line to → IsLine fewer from line to
  line_back from [] to there is = is
  line_back from (next ∷ line) to there is =
      let first : Contains (parents_at fewer from) next = subst (λ (ids : List ObjectId). Contains ids next) (same_parents from (there [] from refl)) is.0 in
      (first, line_back next line to (λ l i rest. there (next ∷ l) i (first, rest)) is.1)

  pub generation_grows : (id : ObjectId) (n : ℕ) → HasGeneration fewer id n → HasGeneration more id n
  generation_grows id n has = record {
    there = λ line to is. let some = some_of (first_named fewer to) (has.there line to (line_back id line to has.there is)) in is_some_of (first_named more to) some.0 (extends to some.0 some.1);
    longest = (has.longest.0, has.longest.1, line_forth id has.longest.0 has.longest.1 has.there has.longest.2, has.longest.3);
    most = λ line to is. has.most line to (line_back id line to has.there is);
  }
