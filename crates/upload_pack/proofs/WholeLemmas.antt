-- Where refs are whole, all that an advertised id leads to is there.
use Rattle.std.proofs.Common.{◌≡◌, ℕ, zero, suc, ◌&&◌, T, not, ◌⊎◌, inl, inr, Bool, true, false, cond, List, [], ◌∷◌, length, map, is_none, Option, None, Some, Contains, refl, sym, ◌∙◌, ap, subst}
use Rattle.std.specs.List.{filter, list_any}
use Rattle.std.specs.Option.{option_map, option_map_or, option_to_list, unwrap_or}
use Rattle.std.specs.declared.cmp.Ordering.{Ordering}
use Rattle.std.specs.declared.cmp.Ordering.TheVariants.{Less, Equal, Greater}
use Rattle.std.specs.Ordering.{nat_cmp, is_lt, is_eq, eq_by_cmp, ordering_reverse}
use Rattle.std.specs.Cmp.{tied_itself}
use Rattle.std.specs.Cmp.Lexicographic.{slice_cmp, nat_list_cmp_total}
use Rattle.std.specs.FinMap.{entries, entries_sorted, find, get, get-entries, is_sorted}
use Rattle.std.specs.FinMap.Entries.{below_all}
use Rattle.git_object.specs.Content.{Content}
use Rattle.git_object.specs.Object.{links_of, object_name, target_in}
use Rattle.git_object.specs.Tag.{target_of}
use Rattle.git_object.specs.declared.kind.Kind.{Kind}
use Rattle.git_object.specs.declared.kind.Kind.TheVariants.{Commit, Tree, Blob, Tag}
use Rattle.git_object.specs.declared.object_id.ObjectId.{ObjectId}
use Rattle.ref_store.specs.Objects.{first_named, same_id}
use Rattle.ref_store.specs.Refs.{Name, Refs}
use Rattle.ref_store.proofs.ObjectLemmas.{id_is}
use Rattle.hub_history.specs.Push.{HasWholeRefs, kind_at}
use Rattle.hub_history.specs.State.{Repository, store_of}
use Rattle.ancestry.specs.Reached.{IsReached, Root, Next}
use Rattle.ancestry.specs.Sent.{linked_at}
use Rattle.ancestry.specs.Tags.{named_by, peel, peel_within}
use Rattle.ancestry.specs.Walk.{IsMet, Link, Want}
use Rattle.ancestry.specs.Walk as walk
use Rattle.ancestry.specs.Wholeness.{is_missing}
use Rattle.ancestry.proofs.LineLemmas.{met_of_reached}
use Rattle.ancestry.proofs.ListLemmas.{any_contains, contains_cases, contains_filter, contains_here, contains_none, contains_one, flat_map_contains}
use Rattle.ancestry.proofs.WalkLemmas.{found_there, none_met}
use Rattle.upload_pack.specs.Advertising.{advertised_ids, ids_of, is_tag, peeled}
use Rattle.upload_pack.specs.Laws.{IsSentOne}
use Rattle.upload_pack.specs.Sending.{is_reached, is_sent, sent}
use Rattle.upload_pack.specs.Wants.{first_foreign, not_ours}
use Rattle.upload_pack.proofs.IdLemmas.{any_ours, ids_left, of_ref}
use Rattle.upload_pack.proofs.SendingLemmas.{from_one, none_reached, not_both, reached_by, reached_on, reached_then, sent_by}

-- ---- refs by their names

both_first : (a b : Bool) → T (a && b) → T a
both_first true b h = tt
both_first false b h = absurd h

both_second : (a b : Bool) → T (a && b) → T b
both_second true b h = h
both_second false b h = absurd h

is_less : (o : Ordering) → T (is_lt o) → o ≡ Less
is_less Less h = refl
is_less Equal h = absurd h
is_less Greater h = absurd h

not_tied : (a b : Name) → T (is_lt (slice_cmp nat_cmp a b)) → eq_by_cmp (slice_cmp nat_cmp) b a ≡ false
not_tied a b h = ap is_eq (nat_list_cmp_total.antisymm b a ∙ ap ordering_reverse (is_less (slice_cmp nat_cmp a b) h))

below_each : (name : Name) (refs : List (Name × ObjectId)) (ref : Name × ObjectId) → T (below_all (slice_cmp nat_cmp) name refs) → Contains refs ref → T (is_lt (slice_cmp nat_cmp name ref.0))
below_each name [] ref low c = absurd (contains_none ref c)
below_each name (r ∷ refs) ref low c = elim (contains_cases r refs ref c) [
  | inl same ↦ subst (λ (q : Name × ObjectId). T (is_lt (slice_cmp nat_cmp name q.0))) same (both_first _ _ low)
  | inr later ↦ below_each name refs ref (both_second _ _ low) later
]

found_at : (refs : List (Name × ObjectId)) (ref : Name × ObjectId) → T (is_sorted (slice_cmp nat_cmp) refs) → Contains refs ref → find (slice_cmp nat_cmp) ref.0 refs ≡ Some ref.1
found_at [] ref up c = absurd (contains_none ref c)
found_at (r ∷ refs) ref up c = elim (contains_cases r refs ref c) [
  | inl same ↦ subst (λ (q : Name × ObjectId). find (slice_cmp nat_cmp) q.0 (r ∷ refs) ≡ Some q.1) same (ap (λ (b : Bool). cond b (Some r.1) (find (slice_cmp nat_cmp) r.0 refs)) (ap is_eq (tied_itself nat_list_cmp_total r.0)))
  | inr later ↦ ap (λ (b : Bool). cond b (Some r.1) (find (slice_cmp nat_cmp) ref.0 refs)) (not_tied r.0 ref.0 (below_each r.0 refs ref (both_first _ _ up) later)) ∙ found_at refs ref (both_second _ _ up) later
]

value_at : (refs : Refs) (ref : Name × ObjectId) → Contains (entries refs) ref → get refs ref.0 ≡ Some ref.1
value_at refs ref c = get-entries refs ref.0 ∙ found_at (entries refs) ref (entries_sorted refs) c

-- ---- tags

-- what a tag names is one of its links
named_link : (objects : List Content) (id next : ObjectId) → named_by objects id ≡ Some next → Contains (linked_at objects id) next
named_link objects id next is = by_find (first_named objects id) is
  where
    by_target : (target : Option (ObjectId × Kind)) → option_map (λ (t : ObjectId × Kind). t.0) target ≡ Some next → Contains (map (λ (l : ObjectId × Kind). l.0) (option_to_list target)) next
    by_target None is = absurd cc
    by_target (Some t) is = let same : t.0 ≡ next = cc in subst (λ (i : ObjectId). Contains (t.0 ∷ []) i) same (contains_here t.0 [])

    by_kind : (kind : Kind) (body : List ℕ) → option_map (λ (t : ObjectId × Kind). t.0) (target_in kind body) ≡ Some next → Contains (map (λ (l : ObjectId × Kind). l.0) (links_of kind body)) next
    by_kind Commit body is = absurd cc
    by_kind Tree body is = absurd cc
    by_kind Blob body is = absurd cc
    by_kind Tag body is = by_target (target_of body) is

    by_find : (found : Option Content) → option_map_or (λ (o : Content). option_map (λ (t : ObjectId × Kind). t.0) (target_in o.kind o.body)) found None ≡ Some next
        → Contains (option_map_or (λ (o : Content). map (λ (l : ObjectId × Kind). l.0) (links_of o.kind o.body)) found []) next
    by_find None is = absurd cc
    by_find (Some o) is = by_kind o.kind o.body is

peel_reached : (objects : List Content) (n : ℕ) (id : ObjectId) → IsReached (linked_at objects) (id ∷ []) (peel_within objects n id)
peel_reached objects zero id = Root id (contains_here id [])
peel_reached objects (suc n) id = by_name (named_by objects id) refl (peel_reached objects n)
  where
    by_name : (named : Option ObjectId) → named_by objects id ≡ named → ((i : ObjectId) → IsReached (linked_at objects) (i ∷ []) (peel_within objects n i)) → IsReached (linked_at objects) (id ∷ []) (peel_within objects n (unwrap_or (named_by objects id) id))
    by_name None is later = subst (λ (o : Option ObjectId). IsReached (linked_at objects) (id ∷ []) (peel_within objects n (unwrap_or o id))) (sym is) (later id)
    by_name (Some next) is later =
        subst (λ (o : Option ObjectId). IsReached (linked_at objects) (id ∷ []) (peel_within objects n (unwrap_or o id))) (sym is)
        (reached_on (linked_at objects) id next (Next id next (Root id (contains_here id [])) (named_link objects id next is)) (peel_within objects n next) (later next))

-- an id that is advertised of a ref is one to which its value leads
of_ref_reached : (objects : List Content) (ref id : ObjectId) → Contains (ids_of objects ref) id → IsReached (linked_at objects) (ref ∷ []) id
of_ref_reached objects ref id c = elim (contains_cases ref (option_to_list (peeled objects ref)) id c) [
  | inl same ↦ subst (λ (i : ObjectId). IsReached (linked_at objects) (ref ∷ []) i) same (Root ref (contains_here ref []))
  | inr more ↦ by_tag (is_tag objects ref) more
]
  where
    by_tag : (b : Bool) → Contains (option_to_list (cond b (Some (peel objects ref)) None)) id → IsReached (linked_at objects) (ref ∷ []) id
    by_tag true more = subst (λ (i : ObjectId). IsReached (linked_at objects) (ref ∷ []) i) (contains_one (peel objects ref) id more) (peel_reached objects (length objects) ref)
    by_tag false more = absurd (contains_none id more)

-- ---- what is there

-- a walk doesn't go by what is wanted of its root
other_kind : (objects : List Content) (root : ObjectId) (one other : Option Kind) (want : Want) → IsMet objects root one want → (kind : Option Kind) × IsMet objects root other (want.0, kind)
other_kind objects root one other want walk.Root = (other, walk.Root)
other_kind objects root one other want (Link from to is link) = (to.1, Link (from.0, (other_kind objects root one other from is).0) to (other_kind objects root one other from is).1 link)

there_then : (objects : List Content) (id : ObjectId) (kind : Option Kind) → is_missing objects (id, kind) ≡ false → (object : Content) × Contains objects object × (object_name object ≡ id)
there_then objects id kind is = by_find (first_named objects id) refl is
  where
    by_find : (found : Option Content) → first_named objects id ≡ found → is_none found ≡ false → (object : Content) × Contains objects object × (object_name object ≡ id)
    by_find None at is = absurd cc
    by_find (Some o) at is = let there = found_there objects id o at in (o, there.0, sym there.1)

no_foreign : (ours wants : List ObjectId) → first_foreign ours wants ≡ None → (want : ObjectId) → Contains wants want → list_any (same_id want) ours ≡ true
no_foreign ours [] none want c = absurd (contains_none want c)
no_foreign ours (w ∷ wants) none want c = by_test (list_any (same_id w) ours) refl none (no_foreign ours wants)
  where
    by_test : (b : Bool) → list_any (same_id w) ours ≡ b → cond (not b) (Some w) (first_foreign ours wants) ≡ None → (first_foreign ours wants ≡ None → (i : ObjectId) → Contains wants i → list_any (same_id i) ours ≡ true) → list_any (same_id want) ours ≡ true
    by_test true is none later = elim (contains_cases w wants want c) [
      | inl same ↦ subst (λ (i : ObjectId). list_any (same_id i) ours ≡ true) same is
      | inr behind ↦ later none want behind
    ]
    by_test false is none later = absurd cc

module _ (repository : Repository) (whole : HasWholeRefs repository) where
  -- all to which a ref's value leads
  there_of_ref : (ref : Name × ObjectId) → Contains (entries repository.refs) ref → (id : ObjectId) → IsReached (linked_at repository.objects) (ref.1 ∷ []) id → (object : Content) × Contains repository.objects object × (object_name object ≡ id)
  there_of_ref ref c id is =
      let is_met = met_of_reached repository.objects ref.1 id is in
      let other = other_kind repository.objects ref.1 None (kind_at ref.0) (id, is_met.0) is_met.1 in
      there_then repository.objects id other.0 (none_met repository.objects ref.1 (kind_at ref.0) (is_missing repository.objects) (whole ref.0 ref.1 (value_at repository.refs ref c)).0 (id, other.0) other.1)

  -- all to which an advertised id leads
  there_of_ours : (want : ObjectId) → list_any (same_id want) (advertised_ids (store_of repository)) ≡ true → (id : ObjectId) → IsReached (linked_at repository.objects) (want ∷ []) id → (object : Content) × Contains repository.objects object × (object_name object ≡ id)
  unfolding ids_left
  there_of_ours want is id reached =
      let among = any_contains (same_id want) (ids_left repository.objects (entries repository.refs)) (any_ours (store_of repository) want ∙ is) in
      let ref = flat_map_contains (of_ref repository.objects) (entries repository.refs) among.0 among.1 in
      let to_want = subst (λ (i : ObjectId). IsReached (linked_at repository.objects) (ref.0.1 ∷ []) i) (sym (id_is want among.0 among.2)) (of_ref_reached repository.objects ref.0.1 among.0 ref.2) in
      there_of_ref ref.0 ref.1 id (reached_on (linked_at repository.objects) ref.0.1 want to_want id reached)

  pub fetch_whole : (wants haves : List ObjectId) → not_ours (store_of repository) wants ≡ None → (id : ObjectId) → IsReached (linked_at repository.objects) wants id
      → IsReached (linked_at repository.objects) haves id ⊎ IsSentOne repository.objects wants haves id
  unfolding sent
  fetch_whole wants haves none id is =
      let root = from_one (linked_at repository.objects) wants id is in
      let there = there_of_ours root.0 (no_foreign (advertised_ids (store_of repository)) wants none root.0 root.1) id root.2 in
      by_test there.0 there.1 there.2 (is_reached repository.objects haves (object_name there.0)) refl
    where
      by_test : (o : Content) → Contains repository.objects o → object_name o ≡ id → (b : Bool) → is_reached repository.objects haves (object_name o) ≡ b
          → IsReached (linked_at repository.objects) haves id ⊎ ((object : Content) × Contains (filter (is_sent repository.objects wants haves) repository.objects) object × (object_name object ≡ id))
      by_test o c name true had = inl (subst (λ (i : ObjectId). IsReached (linked_at repository.objects) haves i) name (reached_then repository.objects haves (object_name o) had))
      by_test o c name false had = inr (
        o,
        contains_filter (is_sent repository.objects wants haves) repository.objects o c
            (sent_by repository.objects wants haves o (subst (λ (i : ObjectId). IsReached (linked_at repository.objects) wants i) (sym name) is)
            (λ reached. not_both (is_reached repository.objects haves (object_name o)) (reached_by repository.objects haves (object_name o) reached) had)),
        name,
      )

  pub clone_whole : (wants : List ObjectId) → not_ours (store_of repository) wants ≡ None → (id : ObjectId) → IsReached (linked_at repository.objects) wants id → IsSentOne repository.objects wants [] id
  clone_whole wants none id is = elim (fetch_whole wants [] none id is) [
    | inl had ↦ absurd (none_reached (linked_at repository.objects) id had)
    | inr one ↦ one
  ]
