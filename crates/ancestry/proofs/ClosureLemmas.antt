-- Walks along links beside what runs of places hold.
use Rattle.std.proofs.Common.{◌≡◌, ℕ, ◌+◌, ◌<◌, ◌≤◌, ◌⊎◌, inl, inr, Bool, true, false, not, cond, ◌||◌, List, [], ◌∷◌, ◌++◌, length, map, filter, take, get_or, Option, None, Some, Contains, refl, sym, ◌∙◌, ap, subst, arith, true≢false, length-append}
use Rattle.std.specs.Prelude.{slice_get, is_some}
use Rattle.std.specs.Option.{option_map, option_map_or}
use Rattle.std.proofs.lemmas.Bool.{cases_lt, or_cases}
use Rattle.std.proofs.lemmas.List.{length-take, get_or-take, take_more}
use Rattle.std.proofs.lemmas.List.Elements.{Contains-append_left, Contains-push, Contains-push_cases}
use Rattle.std.proofs.lemmas.Option.{get_or_from_slice_get, slice_get_within}
use Rattle.git_object.specs.Content.{Content}
use Rattle.git_object.specs.declared.object_id.ObjectId.{ObjectId}
use Rattle.git_object.specs.declared.kind.Kind.{Kind}
use Rattle.git_object.specs.declared.kind.Kind.TheVariants.{Blob}
use Rattle.git_object.specs.Object.{links_of, object_name}
use Rattle.ref_store.specs.Objects.{first_named, place_of, same_id, HasNamesOnce}
use Rattle.ref_store.proofs.ObjectLemmas.{id_is, id_itself, place_there, place_first, place_none, place_kept, place_behind, first_there, first_none, first_kept, no_object, present_from}
use Rattle.ancestry.proofs.ListLemmas.{contains_none, contains_one, contains_filter, filter_contains}
use Rattle.ancestry.specs.declared.closures.Closures.{Closures}
use Rattle.ancestry.specs.declared.runs.Run.{Run}
use Rattle.ancestry.specs.declared.runs.Runs.{Runs}
use Rattle.ancestry.specs.Closures.{AreClosed, AreClosures, Begins, Closes, IsClosure, IsOfClosure, IsThere, Joins, JoinsOne, is_held, linked_unheld}
use Rattle.ancestry.specs.IdSet.{Adds}
use Rattle.ancestry.specs.Reached.{IsReached, Root, Next}
use Rattle.ancestry.specs.Runs.{AreOutside, is_in, is_in_one}
use Rattle.ancestry.specs.Sent.{AreSent, IsSent, linked_at}

-- ---- walks

pub reached_further : (next : ObjectId → List ObjectId) (roots : List ObjectId) (id to : ObjectId) → IsReached next roots id → IsReached next (id ∷ []) to → IsReached next roots to
reached_further next roots id to is (Root root c) = subst (λ (i : ObjectId). IsReached next roots i) (contains_one id to c) is
reached_further next roots id to is (Next from last before link) = Next from last (reached_further next roots id from is before) link

none_or_some : {X : Type 0} (o : Option X) → (o ≡ None) ⊎ ((x : X) × (o ≡ Some x))
none_or_some None = inl refl
none_or_some (Some x) = inr (x, refl)

true_or_false : (b : Bool) → (b ≡ true) ⊎ (b ≡ false)
true_or_false true = inl refl
true_or_false false = inr refl

-- ---- places of names

module _ (objects : List Content) where
  pub there_of : (id : ObjectId) (place : ℕ) → place_of objects id ≡ Some place → IsThere objects id
  there_of id place is = ap (λ (o : Option ℕ). is_some o) is

  pub place_held : (runs : List Run) (id : ObjectId) (place : ℕ) → place_of objects id ≡ Some place → is_in runs place ≡ true → is_held objects runs id ≡ true
  place_held runs id place is has = ap (λ (o : Option ℕ). option_map_or (λ p. is_in runs p) o false) is ∙ has

  pub held_place : (runs : List Run) (id : ObjectId) → is_held objects runs id ≡ true → (place : ℕ) × (place_of objects id ≡ Some place) × (is_in runs place ≡ true)
  held_place runs id held = elim (none_or_some (place_of objects id)) [
    | inl none ↦ absurd (true≢false (sym held ∙ ap (λ (o : Option ℕ). option_map_or (λ p. is_in runs p) o false) none))
    | inr some ↦ (some.0, some.1, sym (ap (λ (o : Option ℕ). option_map_or (λ p. is_in runs p) o false) some.1) ∙ held)
  ]

  pub held_there : (runs : List Run) (id : ObjectId) → is_held objects runs id ≡ true → IsThere objects id
  held_there runs id held = let at = held_place runs id held in there_of id at.0 at.1

  pub place_same : (one other : ObjectId) (place : ℕ) → place_of objects one ≡ Some place → place_of objects other ≡ Some place → one ≡ other
  place_same one other place is also =
      let blob : Content = record { kind = Blob; body = [] } in
      id_is one (object_name (get_or objects place blob)) (place_there objects one place blob is).1 ∙ sym (id_is other (object_name (get_or objects place blob)) (place_there objects other place blob also).1)

  pub place_inside : (id : ObjectId) (place : ℕ) → place_of objects id ≡ Some place → place < length objects
  place_inside id place is = (place_there objects id place (record { kind = Blob; body = [] }) is).0

  -- what links somewhere is there
  pub from_there : (from to : ObjectId) → Contains (linked_at objects from) to → IsThere objects from
  from_there from to link = elim (none_or_some (place_of objects from)) [
    | inl none ↦
        absurd (contains_none to (subst (λ (ids : List ObjectId). Contains ids to) (ap (λ (o : Option Content). option_map_or (λ x. map (λ link. link.0) (links_of x.kind x.body)) o []) (first_none objects from none)) link))
    | inr some ↦ there_of from some.0 some.1
  ]

  pub held_more : (runs more : List Run) (id : ObjectId) → ((place : ℕ) → is_in runs place ≡ true → is_in more place ≡ true) → is_held objects runs id ≡ true → is_held objects more id ≡ true
  held_more runs more id wider held = let at = held_place runs id held in place_held more id at.0 at.1 (wider at.0 at.2)

  pub closed_none : AreClosed objects []
  closed_none = record {
    within = λ place has. absurd (true≢false (sym has));
    links = λ from to held link there. let at = held_place [] from held in absurd (true≢false (sym at.2));
  }

  -- ---- closures that are joined

  module _ (closures : Closures) (roots : List ObjectId) where
    pub joins_none : (before met : List Run) → met ≡ before → Joins objects closures roots before met
    joins_none before met same = record {
      keeps = λ place has. ap (λ (runs : List Run). is_in runs place) same ∙ has;
      comes = λ place has. inl (sym (ap (λ (runs : List Run). is_in runs place) same) ∙ has);
    }

    wider : (met new : List Run) (place : ℕ) → ((p : ℕ) → is_in met p ≡ true → is_in new p ≡ true) → IsOfClosure objects closures roots met place → IsOfClosure objects closures roots new place
    wider met new place more of = record { id = of.id; closure = of.closure; kept = of.kept; reached = of.reached; is = of.is; all = λ other has. more other (of.all other has) }

    pub joins_more : (before met new : List Run) (id : ObjectId) → Joins objects closures roots before met → IsReached (linked_at objects) roots id → JoinsOne closures id met new → Joins objects closures roots before new
    joins_more before met new id joins reached (inl same) = subst (λ (runs : List Run). Joins objects closures roots before runs) (sym same) joins
    joins_more before met new id joins reached (inr one) = record {
      keeps = λ place has. more place (joins.keeps place has);
      comes = λ place has. elim (or_cases (is_in met place) (is_in closure place) (sym (is place) ∙ has)) [
        | inl was ↦ elim (joins.comes place was) [ inl first ↦ inl first | inr of ↦ inr (wider met new place more of) ]
        | inr here ↦ inr (record { id = id; closure = closure; kept = one.1; reached = reached; is = here; all = behind })
      ];
    }
      where
        closure : Runs
        closure = one.0

        is : (place : ℕ) → is_in new place ≡ is_in_one met closure place
        is = one.2

        or_right : (b : Bool) → (b || true) ≡ true
        or_right true = refl
        or_right false = refl

        more : (place : ℕ) → is_in met place ≡ true → is_in new place ≡ true
        more place has = is place ∙ ap (λ (b : Bool). b || is_in closure place) has

        behind : (place : ℕ) → is_in closure place ≡ true → is_in new place ≡ true
        behind place has = is place ∙ ap (λ (b : Bool). is_in met place || b) has ∙ or_right (is_in met place)

    module _ (are : AreClosures objects closures) (before : List Run) (closed : AreClosed objects before) (met : List Run) (joins : Joins objects closures roots before met) where
      -- what the runs hold they had, or a closure has it
      comes_held : (id : ObjectId) → is_held objects met id ≡ true → (is_held objects before id ≡ true) ⊎ ((place : ℕ) × (place_of objects id ≡ Some place) × IsOfClosure objects closures roots met place)
      comes_held id held =
          let at = held_place met id held in
          elim (joins.comes at.0 at.2) [ inl was ↦ inl (place_held before id at.0 at.1 was) | inr of ↦ inr (at.0, at.1, of) ]

      -- a closure has what its objects link to
      closure_links : (from to : ObjectId) (place : ℕ) → place_of objects from ≡ Some place → IsOfClosure objects closures roots met place → Contains (linked_at objects from) to → is_held objects met to ≡ true
      closure_links from to place is of link =
          let closure = are of.id of.closure of.kept in
          let reached = (closure.are_those from).0 (place_held of.closure from place is of.is) in
          held_more of.closure met to of.all ((closure.are_those to).1 (Next from to reached link))

      pub met_links : (from to : ObjectId) → is_held objects met from ≡ true → Contains (linked_at objects from) to → IsThere objects to → is_held objects met to ≡ true
      met_links from to held link there = elim (comes_held from held) [
        | inl was ↦ held_more before met to joins.keeps (closed.links from to was link there)
        | inr of ↦ closure_links from to of.0 of.1 of.2 link
      ]

      pub met_reached : (id : ObjectId) → is_held objects met id ≡ true → (is_held objects before id ≡ true) ⊎ IsReached (linked_at objects) roots id
      met_reached id held = elim (comes_held id held) [
        | inl was ↦ inl was
        | inr found ↦
            let of = found.2 in
            inr (reached_further (linked_at objects) roots of.id id of.reached (((are of.id of.closure of.kept).are_those id).0 (place_held of.closure id found.0 found.1 of.is)))
      ]

      pub met_within : (place : ℕ) → is_in met place ≡ true → place < length objects
      met_within place has = elim (joins.comes place has) [ inl was ↦ closed.within place was | inr of ↦ (are of.id of.closure of.kept).within place of.is ]

      -- a walk that doesn't enter what the runs hold comes to all else
      pub walk_reached : (id : ObjectId) → IsReached (linked_unheld objects met) roots id → IsReached (linked_at objects) roots id
      walk_reached id (Root root c) = Root id c
      walk_reached id (Next from to is link) = Next from id (walk_reached from is) (filter_contains (λ (i : ObjectId). not (is_held objects met i)) (linked_at objects from) id link).0

      unheld_link : (from to : ObjectId) → Contains (linked_at objects from) to → is_held objects met to ≡ false → Contains (linked_unheld objects met from) to
      unheld_link from to link isnt = contains_filter (λ (i : ObjectId). not (is_held objects met i)) (linked_at objects from) to link (ap not isnt)

      pub walk_all : (id : ObjectId) → IsReached (linked_at objects) roots id → IsThere objects id → (is_held objects met id ≡ true) ⊎ IsReached (linked_unheld objects met) roots id
      walk_all id (Root root c) there = inr (Root id c)
      walk_all id (Next from to is link) there = elim (walk_all from is (from_there from id link)) [
        | inl held ↦ inl (met_links from id held link there)
        | inr walk ↦ elim (true_or_false (is_held objects met id)) [ inl held ↦ inl held | inr isnt ↦ inr (Next from id walk (unheld_link from id link isnt)) ]
      ]

      -- also to what isn't there, where the runs had nothing before
      pub walk_strict : ((place : ℕ) → is_in before place ≡ false) → (id : ObjectId) → IsReached (linked_at objects) roots id → (is_held objects met id ≡ true) ⊎ IsReached (linked_unheld objects met) roots id
      walk_strict none id (Root root c) = inr (Root id c)
      walk_strict none id (Next from to is link) = elim (walk_strict none from is) [
        | inl held ↦ elim (comes_held from held) [
          | inl was ↦ let at = held_place before from was in absurd (true≢false (sym at.2 ∙ none at.0))
          | inr of ↦ inl (closure_links from id of.0 of.1 of.2 link)
        ]
        | inr walk ↦ elim (true_or_false (is_held objects met id)) [ inl held ↦ inl held | inr isnt ↦ inr (Next from id walk (unheld_link from id link isnt)) ]
      ]

      -- ---- with what was walked

      abbrev pub Walked : List ObjectId → List Run → Type 0
      Walked set after =
          (place : ℕ) → (is_in after place ≡ true → (is_in met place ≡ true) ⊎ ((id : ObjectId) × Contains set id × (place_of objects id ≡ Some place)))
          × ((is_in met place ≡ true) ⊎ ((id : ObjectId) × Contains set id × (place_of objects id ≡ Some place)) → is_in after place ≡ true)

      module _ (set : List ObjectId) (exact : (id : ObjectId) → (Contains set id → IsReached (linked_unheld objects met) roots id) × (IsReached (linked_unheld objects met) roots id → Contains set id)) (after : List Run) (walked : Walked set after) where
        after_within : (place : ℕ) → is_in after place ≡ true → place < length objects
        after_within place has = elim ((walked place).0 has) [ inl was ↦ met_within place was | inr one ↦ place_inside one.0 place one.2 ]

        after_met : (id : ObjectId) → is_held objects met id ≡ true → is_held objects after id ≡ true
        after_met id held = held_more met after id (λ place has. (walked place).1 (inl has)) held

        after_set : (id : ObjectId) → IsThere objects id → Contains set id → is_held objects after id ≡ true
        after_set id there c = let at = present_from (place_of objects id) there in place_held after id at.0 at.1 ((walked at.0).1 (inr (id, c, at.1)))

        only : (id : ObjectId) → is_held objects after id ≡ true → (is_held objects before id ≡ true) ⊎ IsReached (linked_at objects) roots id
        only id held =
            let at = held_place after id held in
            elim ((walked at.0).0 at.2) [
              | inl was ↦ met_reached id (place_held met id at.0 at.1 was)
              | inr one ↦
                  let same : one.0 ≡ id = place_same one.0 id at.0 one.2 at.1 in
                  inr (subst (λ (i : ObjectId). IsReached (linked_at objects) roots i) same (walk_reached one.0 ((exact one.0).0 one.1)))
            ]

        pub closes_of : Closes objects roots before after
        closes_of = record {
          within = after_within;
          are_those = λ id. (
            λ held. elim (only id held) [ inl was ↦ inl was | inr reached ↦ inr (held_there after id held, reached) ],
            λ either. elim either [
              | inl was ↦ after_met id (held_more before met id joins.keeps was)
              | inr is ↦ elim (walk_all id is.1 is.0) [ inl held ↦ after_met id held | inr walk ↦ after_set id is.0 ((exact id).1 walk) ]
            ],
          );
        }

  -- ---- one object

  pub closure_found : (closures : Closures) (id : ObjectId) → AreClosures objects closures → (met : List Run) → Joins objects closures (id ∷ []) [] met → (set : List ObjectId)
      → ((to : ObjectId) → (Contains set to → IsReached (linked_unheld objects met) (id ∷ []) to) × (IsReached (linked_unheld objects met) (id ∷ []) to → Contains set to))
      → ((to : ObjectId) → Contains set to → IsThere objects to) → (after : List Run)
      → ((place : ℕ) → (is_in after place ≡ true → (is_in met place ≡ true) ⊎ ((to : ObjectId) × Contains set to × (place_of objects to ≡ Some place)))
      × ((is_in met place ≡ true) ⊎ ((to : ObjectId) × Contains set to × (place_of objects to ≡ Some place)) → is_in after place ≡ true))
      → IsClosure objects id after
  closure_found closures id are met joins set exact there after walked = record {
    within = after_within closures (id ∷ []) are [] closed_none met joins set exact after walked;
    are_those = λ to. (
      λ held. elim (only closures (id ∷ []) are [] closed_none met joins set exact after walked to held) [
        | inl was ↦ let at = held_place [] to was in absurd (true≢false (sym at.2))
        | inr reached ↦ reached
      ],
      λ reached. elim (walk_strict closures (id ∷ []) are [] closed_none met joins (λ place. refl) to reached) [
        | inl held ↦ after_met closures (id ∷ []) are [] closed_none met joins set exact after walked to held
        | inr walk ↦ let c = (exact to).1 walk in after_set closures (id ∷ []) are [] closed_none met joins set exact after walked to (there to c) c
      ],
    );
  }

  -- ---- what is sent

  pub closed_of : (haves : List ObjectId) (had : List Run) → Closes objects haves [] had → AreClosed objects had
  closed_of haves had closes = record {
    within = closes.within;
    links = λ from to held link there. elim ((closes.are_those from).0 held) [
      | inl was ↦ let at = held_place [] from was in absurd (true≢false (sym at.2))
      | inr is ↦ (closes.are_those to).1 (inr (there, Next from to is.1 link))
    ];
  }

  -- the place of an object's name is the object's
  pub place_of_name : HasNamesOnce objects → (place : ℕ) (o : Content) → slice_get objects place ≡ Some o → place_of objects (object_name o) ≡ Some place
  place_of_name once place o is = elim (none_or_some (place_of objects (object_name o))) [
    | inl none ↦
        absurd (true≢false (sym (id_itself (object_name o)) ∙ sym (ap (λ (x : Content). same_id (object_name o) (object_name x)) here) ∙ place_none objects (object_name o) none place o inside))
    | inr some ↦ by_order some.0 some.1 (cases_lt some.0 place) (cases_lt place some.0)
  ]
    where
      inside : place < length objects
      inside = slice_get_within objects place o is

      here : get_or objects place o ≡ o
      here = get_or_from_slice_get objects place o o is

      by_order : (first : ℕ) → place_of objects (object_name o) ≡ Some first → (first < place) ⊎ (place ≤ first) → (place < first) ⊎ (first ≤ place) → place_of objects (object_name o) ≡ Some place
      by_order first at (inl before) _ =
          let named : object_name o ≡ object_name (get_or objects first o) = id_is (object_name o) (object_name (get_or objects first o)) (place_there objects (object_name o) first o at).1 in
          absurd (once first place o before inside (ap object_name here ∙ named))
      by_order first at (inr le) (inl behind) =
          absurd (true≢false (sym (id_itself (object_name o)) ∙ sym (ap (λ (x : Content). same_id (object_name o) (object_name x)) here) ∙ place_first objects (object_name o) first at place o behind))
      by_order first at (inr le) (inr ge) = at ∙ ap Some (omega (arith, le, ge))

  pub sent_of : HasNamesOnce objects → (wants haves : List ObjectId) (had wanted : List Run) (places : List ℕ) → Closes objects haves [] had → Closes objects wants had wanted → AreOutside wanted had places → AreSent objects wants haves places
  sent_of once wants haves had wanted places has wants_closed are = record {
    order = are.order;
    are_those = λ p. (λ c. to p ((are.are_those p).0 c), λ is. (are.are_those p).1 (from p is));
  }
    where
      held_false : (id : ObjectId) (p : ℕ) → place_of objects id ≡ Some p → is_in had p ≡ false → ¬ (is_held objects had id ≡ true)
      held_false id p at isnt held = true≢false (sym held ∙ ap (λ (o : Option ℕ). option_map_or (λ q. is_in had q) o false) at ∙ isnt)

      object_at : (p : ℕ) → p < length objects → (o : Content) × (slice_get objects p ≡ Some o)
      object_at p inside = elim (none_or_some (slice_get objects p)) [ inl none ↦ absurd (no_object objects p inside (sym none)) | inr some ↦ some ]

      to : (p : ℕ) → (is_in wanted p ≡ true) × (is_in had p ≡ false) → IsSent objects wants haves p
      to p is =
          let there = object_at p (wants_closed.within p is.0) in
          let name = object_name there.0 in
          let at = place_of_name once p there.0 there.1 in
          record {
            object = there.0;
            there = there.1;
            wanted = elim ((wants_closed.are_those name).0 (place_held wanted name p at is.0)) [
              | inl was ↦ absurd (held_false name p at is.1 was)
              | inr found ↦ found.1
            ];
            not_had = λ reached. held_false name p at is.1 ((has.are_those name).1 (inr (there_of name p at, reached)));
          }

      from : (p : ℕ) → IsSent objects wants haves p → (is_in wanted p ≡ true) × (is_in had p ≡ false)
      from p sent =
          let name = object_name sent.object in
          let at = place_of_name once p sent.object sent.there in
          let held = held_place wanted name ((wants_closed.are_those name).1 (inr (there_of name p at, sent.wanted))) in
          let same : held.0 ≡ p = some_same held.0 p (sym held.1 ∙ at) in (
            subst (λ (q : ℕ). is_in wanted q ≡ true) same held.2,
            elim (true_or_false (is_in had p)) [
              | inl had_it ↦ elim ((has.are_those name).0 (place_held had name p at had_it)) [
                | inl was ↦ let none = held_place [] name was in absurd (true≢false (sym none.2))
                | inr found ↦ absurd (sent.not_had found.1)
              ]
              | inr isnt ↦ isnt
            ],
          )
        where
          some_same : (a b : ℕ) → Some a ≡ Some b → a ≡ b
          some_same a b is = cc

-- the first of objects that have each name once do so too
pub once_first : (objects : List Content) (k : ℕ) → HasNamesOnce objects → HasNamesOnce (take k objects)
once_first objects k once = λ i j d less below.
    let short : j < k = omega (arith, below, length-take k objects) in
    let inside : j < length objects = omega (arith, below, length-take k objects) in
    subst (λ (o : Content). ¬ (object_name (get_or (take k objects) j d) ≡ object_name o)) (sym (get_or-take k objects i d (omega (arith, less, short))))
    (subst (λ (o : Content). ¬ (object_name o ≡ object_name (get_or objects i d))) (sym (get_or-take k objects j d short)) (once i j d less inside))

-- ---- objects that come behind

module _ (fewer rest : List Content) (id : ObjectId) (runs : List Run) (is : IsClosure fewer id runs) where
  same_links : (from : ObjectId) → is_held fewer runs from ≡ true → linked_at (fewer ++ rest) from ≡ linked_at fewer from
  same_links from held =
      let at = held_place fewer runs from held in
      elim (none_or_some (first_named fewer from)) [
        | inl none ↦ absurd (no_object fewer at.0 (place_inside fewer from at.0 at.1) (sym none ∙ first_there fewer from at.0 at.1))
        | inr some ↦ ap (λ (o : Option Content). option_map_or (λ x. map (λ link. link.0) (links_of x.kind x.body)) o []) (first_kept fewer rest from some.0 some.1 ∙ sym some.1)
      ]

  still_reached : (to : ObjectId) → IsReached (linked_at fewer) (id ∷ []) to → IsReached (linked_at (fewer ++ rest)) (id ∷ []) to
  still_reached to (Root root c) = Root to c
  still_reached to (Next from last before link) =
      Next from to (still_reached from before) (subst (λ (ids : List ObjectId). Contains ids to) (sym (same_links from ((is.are_those from).1 before))) link)

  was_reached : (to : ObjectId) → IsReached (linked_at (fewer ++ rest)) (id ∷ []) to → IsReached (linked_at fewer) (id ∷ []) to
  was_reached to (Root root c) = Root to c
  was_reached to (Next from last before link) =
      let was = was_reached from before in
      Next from to was (subst (λ (ids : List ObjectId). Contains ids to) (same_links from ((is.are_those from).1 was)) link)

  was_held : (to : ObjectId) → is_held (fewer ++ rest) runs to ≡ true → is_held fewer runs to ≡ true
  was_held to held =
      let at = held_place (fewer ++ rest) runs to held in
      elim (none_or_some (place_of fewer to)) [
        | inl none ↦ absurd (beyond at.0 (is.within at.0 at.2) (none_or_some (place_of rest to)) (sym at.1 ∙ place_behind fewer rest to none))
        | inr some ↦ place_held fewer runs to some.0 some.1 (subst (λ (p : ℕ). is_in runs p ≡ true) (some_same at.0 some.0 (sym at.1 ∙ place_kept fewer rest to some.0 some.1)) at.2)
      ]
    where
      some_same : (a b : ℕ) → Some a ≡ Some b → a ≡ b
      some_same a b same = cc

      beyond : (p : ℕ) → p < length fewer → (place_of rest to ≡ None) ⊎ ((q : ℕ) × (place_of rest to ≡ Some q)) → Some p ≡ option_map (λ i. length fewer + i) (place_of rest to) → ⊥
      beyond p inside (inl none) same = let is_none : Some p ≡ None = same ∙ ap (option_map (λ i. length fewer + i)) none in cc
      beyond p inside (inr some) same =
          let at : p ≡ length fewer + some.0 = some_same p (length fewer + some.0) (same ∙ ap (option_map (λ i. length fewer + i)) some.1) in
          omega (arith, inside, at)

  pub closure_grows : IsClosure (fewer ++ rest) id runs
  closure_grows = record {
    within = λ place has. omega (arith, is.within place has, length-append fewer rest);
    are_those = λ to. (
      λ held. still_reached to ((is.are_those to).0 (was_held to held)),
      λ reached. let at = held_place fewer runs to ((is.are_those to).1 (was_reached to reached)) in place_held (fewer ++ rest) runs to at.0 (place_kept fewer rest to at.0 at.1) at.2,
    );
  }

pub closures_grow : (fewer more : List Content) (closures : Closures) → Begins fewer more → AreClosures fewer closures → AreClosures more closures
closures_grow fewer more closures begins are = λ id runs c. subst (λ (objects : List Content). IsClosure objects id runs) (sym begins.1) (closure_grows fewer begins.0 id runs (are id runs c))

-- those of two lists
pub closures_of_two : (objects : List Content) (one other both : Closures) → AreClosures objects one → AreClosures objects other → ((closure : ObjectId × List Run) → Contains both closure → Contains one closure ⊎ Contains other closure) → AreClosures objects both
closures_of_two objects one other both are also of = λ id runs c. elim (of (id, runs) c) [ inl first ↦ are id runs first | inr second ↦ also id runs second ]

-- ---- places of a list of names

abbrev pub ArePlacesOf : List Content → List ObjectId → List ℕ → Type 0
ArePlacesOf objects ids places =
    (place : ℕ) → (Contains places place → (id : ObjectId) × Contains ids id × (place_of objects id ≡ Some place)) × ((id : ObjectId) × Contains ids id × (place_of objects id ≡ Some place) → Contains places place)

pub places_none : (objects : List Content) → ArePlacesOf objects [] []
places_none objects place = (λ c. absurd (contains_none place c), λ of. absurd (contains_none of.0 of.1))

pub places_absent : (objects : List Content) (ids : List ObjectId) (id : ObjectId) (places : List ℕ) → ArePlacesOf objects ids places → place_of objects id ≡ None → ArePlacesOf objects (ids ++ id ∷ []) places
places_absent objects ids id places are none place = (
  λ c. let of = (are place).0 c in (of.0, Contains-append_left ids (id ∷ []) of.0 of.1, of.2),
  λ of. elim (Contains-push_cases ids id of.0 of.1) [
    | inl before ↦ (are place).1 (of.0, before, of.2)
    | inr same ↦ let is : None ≡ Some place = sym none ∙ ap (λ (i : ObjectId). place_of objects i) same ∙ of.2 in cc
  ],
)

pub places_one : (objects : List Content) (ids : List ObjectId) (id : ObjectId) (at : ℕ) (places more : List ℕ) → ArePlacesOf objects ids places → place_of objects id ≡ Some at → more ≡ places ++ at ∷ [] → ArePlacesOf objects (ids ++ id ∷ []) more
places_one objects ids id at places more are is push =
    subst (λ (ps : List ℕ). ArePlacesOf objects (ids ++ id ∷ []) ps) (sym push)
    (λ place. (
      λ c. elim (Contains-push_cases places at place c) [
        | inl before ↦ let of = (are place).0 before in (of.0, Contains-append_left ids (id ∷ []) of.0 of.1, of.2)
        | inr same ↦ (id, Contains-push ids id, is ∙ ap Some same)
      ],
      λ of. elim (Contains-push_cases ids id of.0 of.1) [
        | inl before ↦ Contains-append_left places (at ∷ []) place ((are place).1 (of.0, before, of.2))
        | inr same ↦ let here : Some at ≡ Some place = sym is ∙ ap (λ (i : ObjectId). place_of objects i) same ∙ of.2 in subst (λ (p : ℕ). Contains (places ++ at ∷ []) p) (some_is at place here) (Contains-push places at)
      ],
    ))
  where
    some_is : (a b : ℕ) → Some a ≡ Some b → a ≡ b
    some_is a b same = cc

-- the next of the names
pub one_more : (ids : List ObjectId) (at : ℕ) (id : ObjectId) → Some id ≡ slice_get ids at → take (at + 1) ids ≡ take at ids ++ id ∷ []
one_more ids at id is = take_more ids at id (slice_get_within ids at id (sym is)) ∙ ap (λ (i : ObjectId). take at ids ++ i ∷ []) (get_or_from_slice_get ids at id id (sym is))

-- ---- links that are inserted

ids_push : (links : List (ObjectId × Kind)) (link : ObjectId × Kind) → map (λ (l : ObjectId × Kind). l.0) links ++ link.0 ∷ [] ≡ map (λ (l : ObjectId × Kind). l.0) (links ++ link ∷ [])
ids_push [] link = refl
ids_push (l ∷ links) link = ap (λ (ids : List ObjectId). l.0 ∷ ids) (ids_push links link)

abbrev pub AreOnly : List ObjectId → List ObjectId → List (ObjectId × Kind) → Type 0
AreOnly old new links = (to : ObjectId) → Contains new to → Contains old to ⊎ Contains (map (λ (link : ObjectId × Kind). link.0) links) to

pub only_passed : (old new : List ObjectId) (links : List (ObjectId × Kind)) (link : ObjectId × Kind) → AreOnly old new links → AreOnly old new (links ++ link ∷ [])
only_passed old new links link are to c = elim (are to c) [
  | inl was ↦ inl was
  | inr one ↦ inr (subst (λ (ids : List ObjectId). Contains ids to) (ids_push links link) (Contains-append_left (map (λ (l : ObjectId × Kind). l.0) links) (link.0 ∷ []) to one))
]

pub only_one : (old new more : List ObjectId) (links : List (ObjectId × Kind)) (link : ObjectId × Kind) → AreOnly old new links → Adds new more (link.0 ∷ []) → AreOnly old more (links ++ link ∷ [])
only_one old new more links link are adds to c = elim (adds.only to c) [
  | inl was ↦ only_passed old new links link are to was
  | inr one ↦ inr (subst (λ (ids : List ObjectId). Contains ids to) (ids_push links link) (subst (λ (i : ObjectId). Contains (map (λ (l : ObjectId × Kind). l.0) links ++ link.0 ∷ []) i) (contains_one link.0 to one) (Contains-push (map (λ (l : ObjectId × Kind). l.0) links) link.0)))
]

pub filter_push : (p : ObjectId → Bool) (links : List (ObjectId × Kind)) (link : ObjectId × Kind) → p link.0 ≡ true → filter p (map (λ (l : ObjectId × Kind). l.0) links) ++ link.0 ∷ [] ≡ filter p (map (λ (l : ObjectId × Kind). l.0) (links ++ link ∷ []))
filter_push p [] link is = ap (λ (b : Bool). cond b (link.0 ∷ []) []) (sym is)
filter_push p (l ∷ links) link is = by_test (p l.0) (filter_push p links link is)
  where
    by_test : (b : Bool) → filter p (map (λ (x : ObjectId × Kind). x.0) links) ++ link.0 ∷ [] ≡ filter p (map (λ (x : ObjectId × Kind). x.0) (links ++ link ∷ []))
        → cond b (l.0 ∷ filter p (map (λ (x : ObjectId × Kind). x.0) links)) (filter p (map (λ (x : ObjectId × Kind). x.0) links)) ++ link.0 ∷ [] ≡ cond b (l.0 ∷ filter p (map (λ (x : ObjectId × Kind). x.0) (links ++ link ∷ []))) (filter p (map (λ (x : ObjectId × Kind). x.0) (links ++ link ∷ [])))
    by_test true rest = ap (λ (ids : List ObjectId). l.0 ∷ ids) rest
    by_test false rest = rest

-- ---- what was walked, in runs

pub walked_of : (objects : List Content) (set : List ObjectId) (met walked after : List Run) (places sorted : List ℕ) → ((place : ℕ) → is_in after place ≡ is_in_one met walked place)
    → ((place : ℕ) → (is_in walked place ≡ true → Contains sorted place) × (Contains sorted place → is_in walked place ≡ true))
    → ((place : ℕ) → Contains sorted place → Contains places place) → ((place : ℕ) → Contains places place → Contains sorted place) → ArePlacesOf objects set places
    → (place : ℕ) → (is_in after place ≡ true → (is_in met place ≡ true) ⊎ ((id : ObjectId) × Contains set id × (place_of objects id ≡ Some place)))
    × ((is_in met place ≡ true) ⊎ ((id : ObjectId) × Contains set id × (place_of objects id ≡ Some place)) → is_in after place ≡ true)
walked_of objects set met walked after places sorted is read out back are place = (
  λ has. elim (or_cases (is_in met place) (is_in walked place) (sym (is place) ∙ has)) [ inl was ↦ inl was | inr one ↦ inr ((are place).0 (out place ((read place).0 one))) ],
  λ either. is place ∙ elim either [
    | inl was ↦ ap (λ (b : Bool). b || is_in walked place) was
    | inr one ↦ ap (λ (b : Bool). is_in met place || b) ((read place).1 (back place ((are place).1 one))) ∙ or_right (is_in met place)
  ],
)
  where
    or_right : (b : Bool) → (b || true) ≡ true
    or_right true = refl
    or_right false = refl

-- one more
pub closures_more : (objects : List Content) (closures more : Closures) (id : ObjectId) (runs : Runs) → AreClosures objects closures → IsClosure objects id runs → more ≡ closures ++ (id, runs) ∷ [] → AreClosures objects more
closures_more objects closures more id runs are is push = λ other those c. elim (Contains-push_cases closures (id, runs) (other, those) (subst (λ (cs : Closures). Contains cs (other, those)) push c)) [
  | inl was ↦ are other those was
  | inr same ↦ subst (λ (closure : ObjectId × List Run). IsClosure objects closure.0 closure.1) same is
]
