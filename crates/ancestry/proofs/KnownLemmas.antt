-- What is known of some objects.
use Rattle.std.proofs.Common.{◌≡◌, ℕ, ◌+◌, ◌-◌, ◌*◌, ◌<◌, arith, List, [], Bool, true, false, not, cond, is_none, Option, None, Some, Contains, refl, sym, ◌∙◌, ap, subst, inl, inr}
use Rattle.std.specs.Option.{option_map_or}
use Rattle.git_object.specs.Content.{Content}
use Rattle.git_object.specs.Object.{links_of}
use Rattle.git_object.specs.declared.kind.Kind.{Kind}
use Rattle.git_object.specs.declared.object_id.ObjectId.{ObjectId}
use Rattle.ref_store.specs.Objects.{first_named}
use Rattle.ancestry.specs.declared.verdict.Verdict.{Verdict}
use Rattle.ancestry.specs.declared.verdict.Verdict.TheVariants.{Whole, WrongKind}
use Rattle.ancestry.specs.Known.{IsRight, IsWhole, Extends}
use Rattle.ancestry.specs.Tables.{Entries, Has, HasOne, Puts, AreOf}
use Rattle.ancestry.specs.Verdict.{alone, worse, IsToldOf, IsToldOfAll}
use Rattle.ancestry.specs.Walk.{Want, IsMet, Root, Link, wanted_by, links_at, suits}
use Rattle.ancestry.specs.Wholeness.{is_missing, is_wrong}
use Rattle.ancestry.proofs.GenerationLemmas.{generation_grows}
use Rattle.ancestry.proofs.OptionLemmas.{some_of, is_some_of}
use Rattle.ancestry.proofs.TableLemmas.{has_put}
use Rattle.ancestry.proofs.VerdictLemmas.{MetFrom, told_by_links, told_of_none}

-- what is met among more objects, where all that is met among the fewer is there
module _ (fewer more : List Content) (extends : Extends fewer more) (root : ObjectId) (kind : Option Kind) where
  abbrev AllThere : Type 0
  AllThere = (want : Want) → IsMet fewer root kind want → ¬ (is_missing fewer want ≡ true)

  there_of : (want : Want) → ¬ (is_missing fewer want ≡ true) → first_named more want.0 ≡ first_named fewer want.0
  there_of want there = by_find (first_named fewer want.0) refl
    where
      by_find : (f : Option Content) → first_named fewer want.0 ≡ f → first_named more want.0 ≡ first_named fewer want.0
      by_find None e = absurd (there (ap is_none e))
      by_find (Some o) e = extends want.0 o e ∙ sym e

  pub met_back : AllThere → (want : Want) → IsMet more root kind want → IsMet fewer root kind want
  met_back there want Root = Root
  met_back there want (Link from to is link) =
      let before = met_back there from is in
      Link from to before (subst (λ (f : Option Content). Contains (option_map_or (λ o. wanted_by (links_of o.kind o.body)) f []) to) (there_of from (there from before)) link)

  pub same_met : AllThere → (want : Want) → IsMet more root kind want → first_named more want.0 ≡ first_named fewer want.0
  same_met there want is = there_of want (there want (met_back there want is))

-- what is whole stays whole as objects come
right_grows : (fewer more : List Content) (id : ObjectId) → Extends fewer more → IsRight fewer id Whole → IsRight more id Whole
right_grows fewer more id extends right = (is_some_of (first_named more id) here.0 (extends id here.0 here.1), whole)
  where
    here : (c : Content) × (first_named fewer id ≡ Some c)
    here = some_of (first_named fewer id) right.0

    told : IsToldOfAll fewer (links_at fewer id) Whole
    told = right.1

    links : links_at more id ≡ links_at fewer id
    links = ap (λ (f : Option Content). option_map_or (λ o. wanted_by (links_of o.kind o.body)) f []) (extends id here.0 here.1 ∙ sym here.1)

    all_there : (root : Want) → Contains (links_at fewer id) root → (want : Want) → IsMet fewer root.0 root.1 want → ¬ (is_missing fewer want ≡ true)
    all_there root c want is missing = told.0 want.0 (root, c, (want.1, is, missing))

    nothing : (test wider : Want → Bool) → ((want : Want) → first_named more want.0 ≡ first_named fewer want.0 → wider want ≡ test want) → ((q : ObjectId) → ¬ MetFrom fewer (links_at fewer id) test q)
        → (q : ObjectId) → ¬ MetFrom more (links_at more id) wider q
    nothing test wider alike none q found =
        let c = subst (λ (roots : List Want). Contains roots found.0) links found.1 in
        let there = all_there found.0 c in
        let want : Want = (q, found.2.0) in
        let back = met_back fewer more extends found.0.0 found.0.1 there want found.2.1 in
        none q (found.0, c, (found.2.0, back, sym (alike want (same_met fewer more extends found.0.0 found.0.1 there want found.2.1)) ∙ found.2.2))

    whole : IsToldOfAll more (links_at more id) Whole
    whole = (
      nothing (is_missing fewer) (is_missing more) (λ want same. ap is_none same) told.0,
      nothing (is_wrong fewer) (is_wrong more) (λ want same. ap (λ (f : Option Content). option_map_or (λ o. not (suits want.1 o.kind)) f false) same) told.1,
    )

pub whole_grows : (fewer more : List Content) (id : ObjectId) (generation : ℕ) → Extends fewer more → IsWhole fewer id generation → IsWhole more id generation
whole_grows fewer more id generation extends whole = (right_grows fewer more id extends whole.0, generation_grows fewer more extends id generation whole.1)

module _ {V : Type 0} (P : ObjectId → V → Type 0) where
  -- what holds of a value that is put in, and of all that were there, holds of all
  pub found_more : (old new : Entries V) (id : ObjectId) (value : V) → Puts old new id value → P id value → ((q : ObjectId) (told : V) → Has old q told → P q told) → (q : ObjectId) (told : V) → Has new q told → P q told
  found_more old new id value puts right before q told has = elim (has_put old new id value puts q told has) [
    | inl same ↦ subst (λ (i : ObjectId). P i told) (sym same.0) (subst (λ (v : V). P id v) (sym same.1) right)
    | inr old ↦ before q told old
  ]

  -- what holds of all values of some tables and of another holds of theirs
  pub known_of : (before : List (Entries V)) (table : Entries V) (after : List (Entries V)) → AreOf before table after
      → ((q : ObjectId) (told : V) → HasOne before q told → P q told) → ((q : ObjectId) (told : V) → Has table q told → P q told) → (q : ObjectId) (told : V) → HasOne after q told → P q told
  known_of before table after of known found q told has = elim (of q told has) [
    | inl old ↦ known q told old
    | inr new ↦ found q told new
  ]

worse_whole : (f : Option Content) (want : Want) → worse (alone f want) Whole ≡ alone f want
worse_whole None want = refl
worse_whole (Some o) want = elim (suits want.1 o.kind) as (λ b. worse (cond b Whole (WrongKind want.0)) Whole ≡ cond b Whole (WrongKind want.0)) [ true ↦ refl | false ↦ refl ]

-- an object without links alone
pub told_alone : (objects : List Content) (id : ObjectId) (wanted : Option Kind) → links_at objects id ≡ [] → IsToldOf objects id wanted (alone (first_named objects id) (id, wanted))
told_alone objects id wanted none =
    subst (λ (v : Verdict). IsToldOf objects id wanted v) (worse_whole (first_named objects id) (id, wanted))
    (told_by_links objects id wanted Whole (subst (λ (roots : List Want). IsToldOfAll objects roots Whole) (sym none) (told_of_none objects)))

-- where one more is entered, less is left to enter, however much there is to do
pub less_left : (most room before after old new : ℕ) → after ≡ before + 1 → after < most → new < room → (most - after) * room + new < (most - before) * room + old
less_left most room before after old new one below fits =
    let more : (most - before) ≡ (most - after) + 1 = omega (arith, one, below) in
    let split : (most - before) * room ≡ (most - after) * room + room = ap (λ n. n * room) more ∙ grind arith in
    omega (arith, split, fits)
