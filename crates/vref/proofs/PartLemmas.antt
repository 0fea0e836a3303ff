-- Taking out of two trees the entries that both have, in one pass. It is right whichever side the pass goes
-- on in, so nothing here speaks of the order of entries: that no two entries of a tree have one name is
-- enough.
use Rattle.std.proofs.Common.{◌≡◌, ℕ, zero, suc, ◌+◌, ◌<◌, ◌≤◌, take, get_or, map, ◌&&◌, ◌||◌, not, arith, Bool, true, false, cond, List, [], ◌∷◌, ◌++◌, length, Option, None, Some, refl, sym, ◌∙◌, ap, subst, ◌⊎◌, inl, inr}
use Rattle.std.specs.Option.{option_or}
use Rattle.std.specs.Str.{bytes_eq}
use Rattle.std.proofs.lemmas.List.Folds.{find-append}
use Rattle.std.proofs.lemmas.List.Elements.{All-weaker}
use Rattle.ref_store.proofs.ObjectLemmas.{same_bytes}
use Rattle.std.specs.List.{list_any}
use Rattle.std.proofs.lemmas.List.{take_more, take_all}
use Rattle.git_object.specs.Object.{entries_of, fault_of}
use Rattle.git_object.specs.Spelling.{InOrder}
use Rattle.git_object.specs.Tree.{Entry, entry_of, may_follow, sorts_below}
use Rattle.git_object.specs.declared.tree.TreeEntry.{TreeEntry}
use Rattle.git_object.specs.declared.kind.Kind.{Kind}
use Rattle.git_object.specs.declared.kind.Kind.TheVariants.{Commit, Tree, Blob, Tag}
use Rattle.git_object.specs.declared.fault.ObjFault.TheVariants.{BadTree}
use Rattle.git_object.proofs.FormLemmas.{tree_spelled, no_fault}
use Rattle.vref.specs.Rows.{Name, entry_named}
use Rattle.vref.specs.Differences.{Parted, AreParted, NamesOnce, IsDifference, IsNamed, AreDifferences}
use Rattle.vref.specs.declared.differences.Difference.{Difference}

-- the entry, if it has this name
abbrev alone : Entry → Name → Option Entry
alone e name = cond (bytes_eq e.name name) (Some e) None

push : (es : List Entry) (e : Entry) (name : Name) → entry_named (es ++ e ∷ []) name ≡ option_or (entry_named es name) (alone e name)
push es e name = find-append (λ f. bytes_eq f.name name) es (e ∷ [])

pub parted_none : Parted [] [] [] [] []
parted_none = record { old_is = λ name. refl; new_is = λ name. refl; apart = λ name. inl refl }

neither : (a b : Option Entry) → option_or a b ≡ None → (a ≡ None) × (b ≡ None)
neither None b is = (refl, is)
neither (Some x) b is = absurd cc

or_assoc : (a b c : Option Entry) → option_or (option_or a b) c ≡ option_or a (option_or b c)
or_assoc None b c = refl
or_assoc (Some x) b c = refl

or_none : (a : Option Entry) → option_or a None ≡ a
or_none None = refl
or_none (Some x) = refl

-- an entry that both have is taken out of both
pub part_both : (old new olds news common : List Entry) (e : Entry) → Parted old new olds news common → entry_named old e.name ≡ None → entry_named new e.name ≡ None → Parted (old ++ e ∷ []) (new ++ e ∷ []) olds news (common ++ e ∷ [])
part_both old new olds news common e parted old_free new_free = record {
  old_is = λ name. push old e name ∙ ap (λ o. option_or o (alone e name)) (parted.old_is name) ∙ or_assoc (entry_named olds name) (entry_named common name) (alone e name) ∙ ap (option_or (entry_named olds name)) (sym (push common e name));
  new_is = λ name. push new e name ∙ ap (λ o. option_or o (alone e name)) (parted.new_is name) ∙ or_assoc (entry_named news name) (entry_named common name) (alone e name) ∙ ap (option_or (entry_named news name)) (sym (push common e name));
  apart = λ name. by_test name (bytes_eq e.name name) refl;
}
  where
    by_test : (name : Name) (b : Bool) → bytes_eq e.name name ≡ b → (entry_named (common ++ e ∷ []) name ≡ None) ⊎ ((entry_named olds name ≡ None) × (entry_named news name ≡ None))
    by_test name true is =
        let same = same_bytes e.name name is in
        inr (
          (neither (entry_named olds name) (entry_named common name) (sym (parted.old_is name) ∙ subst (λ (n : Name). entry_named old n ≡ None) same old_free)).0,
          (neither (entry_named news name) (entry_named common name) (sym (parted.new_is name) ∙ subst (λ (n : Name). entry_named new n ≡ None) same new_free)).0,
        )
    by_test name false is =
        elim (parted.apart name) [
          | inl none ↦ inl (push common e name ∙ ap (λ b. option_or (entry_named common name) (cond b (Some e) None)) is ∙ or_none (entry_named common name) ∙ none)
          | inr free ↦ inr free
        ]

-- an entry of the old side is kept
pub part_old : (old new olds news common : List Entry) (e : Entry) → Parted old new olds news common → entry_named old e.name ≡ None → Parted (old ++ e ∷ []) new (olds ++ e ∷ []) news common
part_old old new olds news common e parted free = record {
  old_is = λ name. push old e name ∙ ap (λ o. option_or o (alone e name)) (parted.old_is name) ∙ turned name (parted.apart name) ∙ ap (λ o. option_or o (entry_named common name)) (sym (push olds e name));
  new_is = parted.new_is;
  apart = λ name. by_test name (bytes_eq e.name name) refl;
}
  where
    at_name : (name : Name) → bytes_eq e.name name ≡ true → (entry_named olds name ≡ None) × (entry_named common name ≡ None)
    at_name name is = neither (entry_named olds name) (entry_named common name) (sym (parted.old_is name) ∙ subst (λ (n : Name). entry_named old n ≡ None) (same_bytes e.name name is) free)

    turned : (name : Name) → (entry_named common name ≡ None) ⊎ ((entry_named olds name ≡ None) × (entry_named news name ≡ None))
        → option_or (option_or (entry_named olds name) (entry_named common name)) (alone e name) ≡ option_or (option_or (entry_named olds name) (alone e name)) (entry_named common name)
    turned name cases = by_test2 (bytes_eq e.name name) refl
      where
        by_test2 : (b : Bool) → bytes_eq e.name name ≡ b → option_or (option_or (entry_named olds name) (entry_named common name)) (alone e name) ≡ option_or (option_or (entry_named olds name) (alone e name)) (entry_named common name)
        by_test2 true is = let none = at_name name is in rw none.0 (rw none.1 (rw is refl))
        by_test2 false is =
            ap (λ b. option_or (option_or (entry_named olds name) (entry_named common name)) (cond b (Some e) None)) is ∙ or_none (option_or (entry_named olds name) (entry_named common name))
            ∙ sym (ap (λ b. option_or (option_or (entry_named olds name) (cond b (Some e) None)) (entry_named common name)) is ∙ ap (λ o. option_or o (entry_named common name)) (or_none (entry_named olds name)))

    by_test : (name : Name) (b : Bool) → bytes_eq e.name name ≡ b → (entry_named common name ≡ None) ⊎ ((entry_named (olds ++ e ∷ []) name ≡ None) × (entry_named news name ≡ None))
    by_test name true is = inl (at_name name is).1
    by_test name false is =
        elim (parted.apart name) [
          | inl none ↦ inl none
          | inr both ↦ inr (push olds e name ∙ ap (λ b. option_or (entry_named olds name) (cond b (Some e) None)) is ∙ or_none (entry_named olds name) ∙ both.0, both.1)
        ]

-- it is the same which side is which
pub parted_turned : (old new olds news common : List Entry) → Parted old new olds news common → Parted new old news olds common
parted_turned old new olds news common parted = record {
  old_is = parted.new_is;
  new_is = parted.old_is;
  apart = λ name. elim (parted.apart name) [ inl none ↦ inl none | inr both ↦ inr (both.1, both.0) ];
}

pub part_new : (old new olds news common : List Entry) (e : Entry) → Parted old new olds news common → entry_named new e.name ≡ None → Parted old (new ++ e ∷ []) olds (news ++ e ∷ []) common
part_new old new olds news common e parted free = parted_turned (new ++ e ∷ []) old (news ++ e ∷ []) olds common (part_old new old news olds common e (parted_turned old new olds news common parted) free)

-- where what is kept differs the trees differ, and nowhere else
pub parted_differ : (old new olds news common : List Entry) (list : List Difference) → Parted old new olds news common → AreDifferences olds news list → AreDifferences old new list
parted_differ old new olds news common list parted are = record {
  ascend = are.ascend;
  each = All-weaker (IsDifference olds news) (IsDifference old new) (λ d is. whole d is (parted.apart d.name.now)) list are.each;
  all = λ name differ. named name (are.all name (λ same. differ (parted.old_is name ∙ ap (λ o. option_or o (entry_named common name)) same ∙ sym (parted.new_is name))));
}
  where
    whole : (d : Difference) → IsDifference olds news d → (entry_named common d.name.now ≡ None) ⊎ ((entry_named olds d.name.now ≡ None) × (entry_named news d.name.now ≡ None)) → IsDifference old new d
    whole d is (inl none) = record {
      old_is = is.old_is ∙ sym (parted.old_is d.name.now ∙ ap (option_or (entry_named olds d.name.now)) none ∙ or_none (entry_named olds d.name.now));
      new_is = is.new_is ∙ sym (parted.new_is d.name.now ∙ ap (option_or (entry_named news d.name.now)) none ∙ or_none (entry_named news d.name.now));
      differ = is.differ;
    }
    whole d is (inr both) = absurd (is.differ (is.old_is ∙ both.0 ∙ sym (is.new_is ∙ both.1)))

    named : (name : Name) → IsNamed olds news list name → IsNamed old new list name
    named name is = (is.0, is.1, is.2)

-- ---- names once

either : (a b : Bool) → (a || b) ≡ false → (a ≡ false) × (b ≡ false)
either true b is = absurd cc
either false b is = (refl, is)

second : (a b : Bool) → (a && not b) ≡ true → b ≡ false
second true true is = absurd cc
second true false is = refl
second false b is = absurd cc

may_not : (before : List Entry) (e : Entry) → may_follow before e ≡ true → list_any (λ f. bytes_eq f.name e.name) before ≡ false
may_not [] e is = refl
may_not (nearest ∷ others) e is = second (sorts_below nearest e) (list_any (λ f. bytes_eq f.name e.name) (nearest ∷ others)) is

once_before : (before front : List Entry) (e : Entry) (rest : List Entry) → InOrder before (front ++ e ∷ rest) → (entry_named front e.name ≡ None) × (list_any (λ f. bytes_eq f.name e.name) before ≡ false)
once_before before [] e rest order = (refl, may_not before e order.0)
once_before before (d ∷ front) e rest order =
    let behind = once_before (d ∷ before) front e rest order.1 in
    let parts = either (bytes_eq d.name e.name) (list_any (λ f. bytes_eq f.name e.name) before) behind.1 in
    (ap (λ b. cond b (Some d) (entry_named front e.name)) parts.0 ∙ behind.0, parts.1)

pub once_none : NamesOnce []
once_none [] e rest is = absurd cc
once_none (d ∷ front) e rest is = refl_of d front e rest is
  where
    refl_of : (d : Entry) (front : List Entry) (e : Entry) (rest : List Entry) → [] ≡ (d ∷ front) ++ e ∷ rest → entry_named (d ∷ front) e.name ≡ None
    refl_of d front e rest is = absurd cc

-- a body without fault has each name once
pub once_in : (kind : Kind) (body : List ℕ) → fault_of kind body ≡ None → NamesOnce (entries_of kind body)
once_in Commit body good = once_none
once_in Tree body good = λ front e rest is. (once_before [] front e rest (subst (λ (es : List Entry). InOrder [] es) is (tree_spelled body (no_fault BadTree _ good)).order)).0
once_in Blob body good = once_none
once_in Tag body good = once_none

-- ---- the pass over both sides

map_push : (ys : List TreeEntry) (e : TreeEntry) → map entry_of (ys ++ e ∷ []) ≡ map entry_of ys ++ entry_of e ∷ []
map_push [] e = refl
map_push (y ∷ ys) e = ap (λ (es : List Entry). entry_of y ∷ es) (map_push ys e)

split : (xs : List TreeEntry) (i : ℕ) (d : TreeEntry) → i < length xs → (rest : List TreeEntry) × (map entry_of xs ≡ map entry_of (take i xs) ++ entry_of (get_or xs i d) ∷ map entry_of rest)
split [] i d below = absurd (omega (arith, below))
split (x ∷ xs) zero d below = (xs, refl)
split (x ∷ xs) (suc i) d below = let r = split xs i d (omega (arith, below)) in (r.0, ap (λ (es : List Entry). entry_of x ∷ es) r.1)

free : (xs : List TreeEntry) (i : ℕ) (d : TreeEntry) → NamesOnce (map entry_of xs) → i < length xs → entry_named (map entry_of (take i xs)) (entry_of (get_or xs i d)).name ≡ None
free xs i d once below = let r = split xs i d below in once (map entry_of (take i xs)) (entry_of (get_or xs i d)) (map entry_of r.0) r.1

more : (xs : List TreeEntry) (i : ℕ) (d : TreeEntry) → i < length xs → map entry_of (take (i + 1) xs) ≡ map entry_of (take i xs) ++ entry_of (get_or xs i d) ∷ []
more xs i d below = ap (map entry_of) (take_more xs i d below) ∙ map_push (take i xs) (get_or xs i d)

-- so far on either side
pub record Parting (old new : List TreeEntry) (i j : ℕ) (olds news : List TreeEntry) : Type 0 where
  pub old_within : i ≤ length old
  pub new_within : j ≤ length new
  pub parted : AreParted (take i old) (take j new) olds news

pub parting_begins : (old new olds news : List TreeEntry) → olds ≡ [] → news ≡ [] → Parting old new 0 0 olds news
parting_begins old new olds news a b = record {
  old_within = omega arith;
  new_within = omega arith;
  parted = ([], subst (λ (xs : List TreeEntry). Parted [] [] (map entry_of xs) (map entry_of news) []) (sym a) (subst (λ (xs : List TreeEntry). Parted [] [] [] (map entry_of xs) []) (sym b) parted_none));
}

pub parting_both : (old new olds news : List TreeEntry) (i j : ℕ) → NamesOnce (map entry_of old) → NamesOnce (map entry_of new) → Parting old new i j olds news → i < length old → j < length new
    → ((d e : TreeEntry) → entry_of (get_or old i d) ≡ entry_of (get_or new j e)) → (d : TreeEntry) → Parting old new (i + 1) (j + 1) olds news
parting_both old new olds news i j once_old once_new parting old_below new_below same d =
    let e = entry_of (get_or old i d) in
    let is = same d d in
    let new_free : entry_named (map entry_of (take j new)) (entry_of (get_or old i d)).name ≡ None = ap (λ (x : Entry). entry_named (map entry_of (take j new)) x.name) is ∙ free new j d once_new new_below in
    let next = part_both (map entry_of (take i old)) (map entry_of (take j new)) (map entry_of olds) (map entry_of news) parting.parted.0 e parting.parted.1 (free old i d once_old old_below) new_free in
    record {
      old_within = omega (arith, old_below);
      new_within = omega (arith, new_below);
      parted = (
        parting.parted.0 ++ e ∷ [],
        subst (λ (es : List Entry). Parted es (map entry_of (take (j + 1) new)) (map entry_of olds) (map entry_of news) (parting.parted.0 ++ entry_of (get_or old i d) ∷ [])) (sym (more old i d old_below))
            (subst (λ (es : List Entry). Parted (map entry_of (take i old) ++ entry_of (get_or old i d) ∷ []) es (map entry_of olds) (map entry_of news) (parting.parted.0 ++ entry_of (get_or old i d) ∷ []))
            (ap (λ (x : Entry). map entry_of (take j new) ++ x ∷ []) is ∙ sym (more new j d new_below)) next),
      );
    }

pub parting_old : (old new olds news kept : List TreeEntry) (i j : ℕ) (d : TreeEntry) → NamesOnce (map entry_of old) → Parting old new i j olds news → i < length old → kept ≡ olds ++ get_or old i d ∷ [] → Parting old new (i + 1) j kept news
parting_old old new olds news kept i j d once parting below push =
    let e = entry_of (get_or old i d) in
    let next = part_old (map entry_of (take i old)) (map entry_of (take j new)) (map entry_of olds) (map entry_of news) parting.parted.0 e parting.parted.1 (free old i d once below) in
    record {
      old_within = omega (arith, below);
      new_within = parting.new_within;
      parted = (
        parting.parted.0,
        subst (λ (es : List Entry). Parted es (map entry_of (take j new)) (map entry_of kept) (map entry_of news) parting.parted.0) (sym (more old i d below))
            (subst (λ (es : List Entry). Parted (map entry_of (take i old) ++ entry_of (get_or old i d) ∷ []) (map entry_of (take j new)) es (map entry_of news) parting.parted.0)
            (sym (ap (map entry_of) push ∙ map_push olds (get_or old i d))) next),
      );
    }

pub parting_new : (old new olds news kept : List TreeEntry) (i j : ℕ) (d : TreeEntry) → NamesOnce (map entry_of new) → Parting old new i j olds news → j < length new → kept ≡ news ++ get_or new j d ∷ [] → Parting old new i (j + 1) olds kept
parting_new old new olds news kept i j d once parting below push =
    let e = entry_of (get_or new j d) in
    let next = part_new (map entry_of (take i old)) (map entry_of (take j new)) (map entry_of olds) (map entry_of news) parting.parted.0 e parting.parted.1 (free new j d once below) in
    record {
      old_within = parting.old_within;
      new_within = omega (arith, below);
      parted = (
        parting.parted.0,
        subst (λ (es : List Entry). Parted (map entry_of (take i old)) es (map entry_of olds) (map entry_of kept) parting.parted.0) (sym (more new j d below))
            (subst (λ (es : List Entry). Parted (map entry_of (take i old)) (map entry_of (take j new) ++ entry_of (get_or new j d) ∷ []) (map entry_of olds) es parting.parted.0)
            (sym (ap (map entry_of) push ∙ map_push news (get_or new j d))) next),
      );
    }

pub parting_ends : (old new olds news : List TreeEntry) (i j : ℕ) → Parting old new i j olds news → length old ≤ i → length new ≤ j → AreParted old new olds news
parting_ends old new olds news i j parting old_end new_end = (
  parting.parted.0,
  subst (λ (xs : List TreeEntry). Parted (map entry_of xs) (map entry_of new) (map entry_of olds) (map entry_of news) parting.parted.0) (take_all i old old_end)
      (subst (λ (xs : List TreeEntry). Parted (map entry_of (take i old)) (map entry_of xs) (map entry_of olds) (map entry_of news) parting.parted.0) (take_all j new new_end) parting.parted.1),
)
