-- What verdicts tell.
use Rattle.std.proofs.Common.{◌≡◌, ◌↔◌, Bool, true, false, not, cond, is_none, List, [], ◌∷◌, ◌++◌, map, filter, Option, None, Some, Contains, refl, sym, ◌∙◌, ap, subst, ◌⊎◌, inl, inr, true≢false}
use Rattle.std.proofs.lemmas.List.Elements.{Contains-append_left, Contains-append_right, Contains-push_cases}
use Rattle.std.specs.Option.{option_map_or}
use Rattle.git_object.specs.Content.{Content}
use Rattle.git_object.specs.declared.object_id.ObjectId.{ObjectId}
use Rattle.git_object.specs.declared.kind.Kind.{Kind}
use Rattle.ref_store.specs.Objects.{first_named}
use Rattle.ancestry.specs.declared.verdict.Verdict.{Verdict}
use Rattle.ancestry.specs.declared.verdict.Verdict.TheVariants.{Whole, Missing, WrongKind}
use Rattle.ancestry.specs.declared.wholeness.Wholeness.{Wholeness}
use Rattle.ancestry.specs.declared.wholeness.Wholeness.TheVariants as wholeness
use Rattle.ancestry.specs.Order.{is_below, lesser, least, IsLeast}
use Rattle.ancestry.specs.Walk.{Want, IsMet, Root, Link, links_at, suits, met}
use Rattle.ancestry.specs.Wholeness.{is_missing, is_wrong, missing, wrong, TellsOfWholeness}
use Rattle.ancestry.specs.Verdict.{alone, worse, Tells, IsToldOf, IsToldOfAll}
use Rattle.ancestry.proofs.ListLemmas.{contains_none, contains_here}
use Rattle.ancestry.proofs.OrderLemmas.{not_below_itself, not_below_through, lesser_first, lesser_second, lesser_either, one_least, least_of_same}
use Rattle.ancestry.proofs.WalkLemmas.{no_links, least_met, none_met}

pub no_both : {P : Type 0} (b : Bool) → b ≡ true → b ≡ false → P
no_both b is isnt = absurd (true≢false (sym is ∙ isnt))

abbrev pub Either : (ObjectId → Type 0) → (ObjectId → Type 0) → ObjectId → Type 0
Either P Q id = P id ⊎ Q id

abbrev pub IsSame : (ObjectId → Type 0) → (ObjectId → Type 0) → Type 0
IsSame P Q = (id : ObjectId) → P id ↔ Q id

-- the least of those of which either holds
module _ (P Q : ObjectId → Type 0) where
  least_none : IsLeast P None → IsLeast Q None → IsLeast (Either P Q) None
  least_none p q = λ id found. elim found [ inl f ↦ p id f | inr f ↦ q id f ]

  least_first : (m : ObjectId) → IsLeast P (Some m) → IsLeast Q None → IsLeast (Either P Q) (Some m)
  least_first m p q = (inl p.0, λ id found. elim found [ inl f ↦ p.1 id f | inr f ↦ absurd (q id f) ])

  least_second : (n : ObjectId) → IsLeast P None → IsLeast Q (Some n) → IsLeast (Either P Q) (Some n)
  least_second n p q = (inr q.0, λ id found. elim found [ inl f ↦ absurd (p id f) | inr f ↦ q.1 id f ])

  least_both : (m n : ObjectId) → IsLeast P (Some m) → IsLeast Q (Some n) → IsLeast (Either P Q) (Some (lesser m n))
  least_both m n p q = (
    elim (lesser_either m n) [
      | inl is ↦ subst (λ (i : ObjectId). Either P Q i) (sym is) (inl p.0)
      | inr is ↦ subst (λ (i : ObjectId). Either P Q i) (sym is) (inr q.0)
    ],
    λ id found. elim found [
      | inl f ↦ not_below_through (lesser m n) m id (lesser_first m n) (p.1 id f)
      | inr f ↦ not_below_through (lesser m n) n id (lesser_second m n) (q.1 id f)
    ],
  )

pub tells_both : (P Q R S : ObjectId → Type 0) (a b : Verdict) → Tells P Q a → Tells R S b → Tells (Either P R) (Either Q S) (worse a b)
tells_both P Q R S Whole Whole a b = (least_none P R a.0 b.0, least_none Q S a.1 b.1)
tells_both P Q R S Whole (Missing n) a b = least_second P R n a.0 b
tells_both P Q R S Whole (WrongKind n) a b = (least_none P R a.0 b.0, least_second Q S n a.1 b.1)
tells_both P Q R S (Missing m) Whole a b = least_first P R m a b.0
tells_both P Q R S (Missing m) (Missing n) a b = least_both P R m n a b
tells_both P Q R S (Missing m) (WrongKind n) a b = least_first P R m a b.0
tells_both P Q R S (WrongKind m) Whole a b = (least_none P R a.0 b.0, least_first Q S m a.1 b.1)
tells_both P Q R S (WrongKind m) (Missing n) a b = least_second P R n a.0 b
tells_both P Q R S (WrongKind m) (WrongKind n) a b = (least_none P R a.0 b.0, least_both Q S m n a.1 b.1)

same_least : (P Q : ObjectId → Type 0) (o : Option ObjectId) → IsSame P Q → IsLeast P o → IsLeast Q o
same_least P Q o same = least_of_same P Q o (λ id p. (same id).0 p) (λ id q. (same id).1 q)

pub tells_same : (P Q R S : ObjectId → Type 0) (v : Verdict) → IsSame P R → IsSame Q S → Tells P Q v → Tells R S v
tells_same P Q R S Whole lost odd told = (same_least P R None lost told.0, same_least Q S None odd told.1)
tells_same P Q R S (Missing m) lost odd told = same_least P R (Some m) lost told
tells_same P Q R S (WrongKind m) lost odd told = (same_least P R None lost told.0, same_least Q S (Some m) odd told.1)

-- the id where what is wanted of it passes a test, some that a walk meets, and some that walks from several
-- meet
abbrev pub Alone : ObjectId → Option Kind → (Want → Bool) → ObjectId → Type 0
Alone id wanted test other = (id ≡ other) × (test (id, wanted) ≡ true)

abbrev pub Met : List Content → ObjectId → Option Kind → (Want → Bool) → ObjectId → Type 0
Met objects root kind test id = (wanted : Option Kind) × IsMet objects root kind (id, wanted) × (test (id, wanted) ≡ true)

abbrev pub MetFrom : List Content → List Want → (Want → Bool) → ObjectId → Type 0
MetFrom objects roots test id = (root : Want) × Contains roots root × Met objects root.0 root.1 test id

-- one id alone
pub alone_tells : (objects : List Content) (id : ObjectId) (wanted : Option Kind) → Tells (Alone id wanted (is_missing objects)) (Alone id wanted (is_wrong objects)) (alone (first_named objects id) (id, wanted))
alone_tells objects id wanted = by_find (first_named objects id)
  where
    first : (b : Bool) → b ≡ true → IsLeast (λ other. (id ≡ other) × (b ≡ true)) (Some id)
    first b is = ((refl, is), λ other found. ap (λ (i : ObjectId). is_below i id) (sym found.0) ∙ not_below_itself id)

    none : (b : Bool) → b ≡ false → IsLeast (λ other. (id ≡ other) × (b ≡ true)) None
    none b isnt = λ other found. no_both b found.1 isnt

    by_suit : (b : Bool) → Tells (λ other. (id ≡ other) × (false ≡ true)) (λ other. (id ≡ other) × (not b ≡ true)) (cond b Whole (WrongKind id))
    by_suit true = (none false refl, none false refl)
    by_suit false = (none false refl, first true refl)

    by_find : (f : Option Content) → Tells (λ other. (id ≡ other) × (is_none f ≡ true)) (λ other. (id ≡ other) × (option_map_or (λ o. not (suits wanted o.kind)) f false ≡ true)) (alone f (id, wanted))
    by_find None = first true refl
    by_find (Some o) = by_suit (suits wanted o.kind)

alone_missing : (f : Option Content) (want : Want) (m : ObjectId) → alone f want ≡ Missing m → f ≡ None
alone_missing None want m is = refl
alone_missing (Some o) want m is = by_suit (suits want.1 o.kind) is
  where
    by_suit : (b : Bool) → cond b Whole (WrongKind want.0) ≡ Missing m → Some o ≡ None
    by_suit true is = cc
    by_suit false is = cc

-- what is told of none
pub told_of_none : (objects : List Content) → IsToldOfAll objects [] Whole
told_of_none objects = (λ id found. contains_none found.0 found.1, λ id found. contains_none found.0 found.1)

module _ (objects : List Content) (id : ObjectId) (wanted : Option Kind) where
  -- what is met is the id itself, or is met from one of its links
  met_behind : (want : Want) → IsMet objects id wanted want → ((id, wanted) ≡ want) ⊎ ((link : Want) × Contains (links_at objects id) link × IsMet objects link.0 link.1 want)
  met_behind want Root = inl refl
  met_behind want (Link from to met link) =
      inr (
      elim (met_behind from met) [
        | inl is ↦ (to, subst (λ (w : Want). Contains (links_at objects w.0) to) (sym is) link, Root)
        | inr found ↦ (found.0, found.1, Link from to found.2 link)
      ]
      )

  from_link : (link want : Want) → Contains (links_at objects id) link → IsMet objects link.0 link.1 want → IsMet objects id wanted want
  from_link link want c Root = Link (id, wanted) link Root c
  from_link link want c (Link from to met next) = Link from to (from_link link from c met) next

  by_links : (test : Want → Bool) → IsSame (Either (Alone id wanted test) (MetFrom objects (links_at objects id) test)) (Met objects id wanted test)
  by_links test = λ other. (
    λ either. elim either [
      | inl found ↦ subst (λ (i : ObjectId). Met objects id wanted test i) found.0 (wanted, Root, found.1)
      | inr found ↦ (found.2.0, from_link found.0 (other, found.2.0) found.1 found.2.1, found.2.2)
    ],
    λ found. elim (met_behind (other, found.0) found.1) [
      | inl is ↦ inl (ap (λ (w : Want). w.0) is, ap test is ∙ found.2)
      | inr behind ↦ inr (behind.0, behind.1, (found.0, behind.2, found.2))
    ],
  )

  -- the id beside what is told of all that its links lead to
  pub told_by_links : (v : Verdict) → IsToldOfAll objects (links_at objects id) v → IsToldOf objects id wanted (worse (alone (first_named objects id) (id, wanted)) v)
  told_by_links v told =
      tells_same
      (Either (Alone id wanted (is_missing objects)) (MetFrom objects (links_at objects id) (is_missing objects)))
      (Either (Alone id wanted (is_wrong objects)) (MetFrom objects (links_at objects id) (is_wrong objects)))
      (Met objects id wanted (is_missing objects))
      (Met objects id wanted (is_wrong objects))
      (worse (alone (first_named objects id) (id, wanted)) v)
      (by_links (is_missing objects))
      (by_links (is_wrong objects))
      (tells_both
      (Alone id wanted (is_missing objects))
      (Alone id wanted (is_wrong objects))
      (MetFrom objects (links_at objects id) (is_missing objects))
      (MetFrom objects (links_at objects id) (is_wrong objects))
      (alone (first_named objects id) (id, wanted))
      v
      (alone_tells objects id wanted)
      told)

  -- an id that is missing leads to nothing
  pub told_missing : (v : Verdict) (m : ObjectId) → v ≡ alone (first_named objects id) (id, wanted) → v ≡ Missing m → IsToldOf objects id wanted v
  told_missing v m told is =
      let none = alone_missing (first_named objects id) (id, wanted) m (sym told ∙ is) in
      let itself : worse (alone (first_named objects id) (id, wanted)) Whole ≡ v = ap (λ (u : Verdict). worse u Whole) (sym told ∙ is) ∙ sym is in
      subst (λ (u : Verdict). IsToldOf objects id wanted u) itself (told_by_links Whole (subst (λ (roots : List Want). IsToldOfAll objects roots Whole) (sym (no_links objects id none)) (told_of_none objects)))

  -- what is told is what the definitions say
  least_told : (test : Want → Bool) (o : Option ObjectId) → IsLeast (Met objects id wanted test) o → least (map (λ want. want.0) (filter test (met objects id wanted))) ≡ o
  least_told test o is = one_least (Met objects id wanted test) (least (map (λ (want : Want). want.0) (filter test (met objects id wanted)))) o (least_met objects id wanted test) is

-- in the words of callers
abbrev pub as_wholeness : Verdict → Wholeness
as_wholeness Whole = wholeness.Whole
as_wholeness (Missing id) = wholeness.Missing id
as_wholeness (WrongKind id) = wholeness.WrongKind id

pub told_as_defined : (objects : List Content) (id : ObjectId) (wanted : Option Kind) (v : Verdict) → IsToldOf objects id wanted v → TellsOfWholeness objects id wanted (as_wholeness v)
told_as_defined objects id wanted Whole told = (least_told objects id wanted (is_missing objects) None told.0, least_told objects id wanted (is_wrong objects) None told.1)
told_as_defined objects id wanted (Missing m) told = least_told objects id wanted (is_missing objects) (Some m) told
told_as_defined objects id wanted (WrongKind m) told = (least_told objects id wanted (is_missing objects) None told.0, least_told objects id wanted (is_wrong objects) (Some m) told.1)

-- where nothing that an id leads to is amiss, nothing that its links lead to is
pub trusted : (objects : List Content) (id : ObjectId) → missing objects id None ≡ None → wrong objects id None ≡ None → IsToldOfAll objects (links_at objects id) Whole
trusted objects id no_missing no_wrong = (nothing (is_missing objects) no_missing, nothing (is_wrong objects) no_wrong)
  where
    nothing : (test : Want → Bool) → least (map (λ want. want.0) (filter test (met objects id None))) ≡ None → IsLeast (MetFrom objects (links_at objects id) test) None
    nothing test none = λ other found.
        let want : Want = (other, found.2.0) in
        no_both (test want) found.2.2 (none_met objects id None test none want (from_link objects id None found.0 want found.1 found.2.1))

-- what is told of one more
one_more : (objects : List Content) (roots : List Want) (root : Want) (test : Want → Bool) → IsSame (Either (MetFrom objects roots test) (Met objects root.0 root.1 test)) (MetFrom objects (roots ++ root ∷ []) test)
one_more objects roots root test = λ id. (
  λ either. elim either [
    | inl found ↦ (found.0, Contains-append_left roots (root ∷ []) found.0 found.1, found.2)
    | inr found ↦ (root, Contains-append_right roots (root ∷ []) root (contains_here root []), found)
  ],
  λ found. elim (Contains-push_cases roots root found.0 found.1) [
    | inl before ↦ inl (found.0, before, found.2)
    | inr same ↦ inr (subst (λ (w : Want). Met objects w.0 w.1 test id) (sym same) found.2)
  ],
)

pub told_of_one_more : (objects : List Content) (roots : List Want) (root : Want) (a b : Verdict) → IsToldOfAll objects roots a → IsToldOf objects root.0 root.1 b → IsToldOfAll objects (roots ++ root ∷ []) (worse a b)
told_of_one_more objects roots root a b before behind =
    tells_same
    (Either (MetFrom objects roots (is_missing objects)) (Met objects root.0 root.1 (is_missing objects)))
    (Either (MetFrom objects roots (is_wrong objects)) (Met objects root.0 root.1 (is_wrong objects)))
    (MetFrom objects (roots ++ root ∷ []) (is_missing objects))
    (MetFrom objects (roots ++ root ∷ []) (is_wrong objects))
    (worse a b)
    (one_more objects roots root (is_missing objects))
    (one_more objects roots root (is_wrong objects))
    (tells_both
    (MetFrom objects roots (is_missing objects))
    (MetFrom objects roots (is_wrong objects))
    (Met objects root.0 root.1 (is_missing objects))
    (Met objects root.0 root.1 (is_wrong objects))
    a b before behind)
