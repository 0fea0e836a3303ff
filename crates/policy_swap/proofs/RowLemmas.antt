-- Rows by the names of their paths.
use Rattle.std.proofs.Common.{◌≡◌, ℕ, Bool, true, false, cond, ◌||◌, ◌&&◌, not, eqb, List, [], ◌∷◌, ◌++◌, Option, None, Some, refl, sym, ◌∙◌, ap, subst, append_assoc, append-nil}
use Rattle.std.specs.List.{AllByRecursion, onto_first, join_with_byte, list_any}
use Rattle.std.specs.Str.{bytes_eq}
use Rattle.std.proofs.lemmas.List.Splits.{slice_split_none, slice_split_at, join_with_byte-slice_split}
use Rattle.std.proofs.lemmas.List.Elements.{All-from_recursion}
use Rattle.git_object.specs.Content.{Content}
use Rattle.git_object.specs.Object.{entries_of}
use Rattle.git_object.specs.Spelling.{IsEntry, spelled_entry}
use Rattle.git_object.specs.Tree.{Entry, tree_entry}
use Rattle.git_object.specs.declared.object_id.ObjectId.{ObjectId}
use Rattle.git_object.specs.declared.kind.Kind.{Kind}
use Rattle.git_object.specs.declared.kind.Kind.TheVariants.{Commit, Tree, Blob, Tag}
use Rattle.git_object.proofs.SpellingLemmas.{items_spelled}
use Rattle.git_object.proofs.EntryLemmas.{entry_takes}
use Rattle.ref_store.specs.RefName.{pieces}
use Rattle.ref_store.proofs.ObjectLemmas.{same_bytes}
use Rattle.vref.specs.Rows.{Name, IsName, Path, entries_in, entry_named, entry_at, object_at, tree_below, row_at}
use Rattle.vref.specs.Walk.{front_of, tree_at}

-- ---- names and paths

no_slash : (name : Name) → IsName name → AllByRecursion (λ c. eqb c 47 ≡ false) name
no_slash [] is = tt
no_slash (c ∷ name) is = by_test (no_slash name) (eqb c 47) refl is
  where
    by_test : (list_any (λ d. eqb d 47) name ≡ false → AllByRecursion (λ d. eqb d 47 ≡ false) name) → (b : Bool) → eqb c 47 ≡ b → (b || list_any (λ d. eqb d 47) name) ≡ false → (eqb c 47 ≡ false) × AllByRecursion (λ d. eqb d 47 ≡ false) name
    by_test rest true e is = absurd cc
    by_test rest false e is = (e, rest is)

-- a name is one piece
pub pieces_name : (name : Name) → IsName name → pieces name ≡ name ∷ []
pieces_name name is = slice_split_none (λ c. eqb c 47) name (All-from_recursion (λ c. eqb c 47 ≡ false) name (no_slash name is))

-- behind a name and a slash are the pieces of what follows
pub pieces_behind : (name : Name) (rest : Path) → IsName name → pieces (name ++ 47 ∷ rest) ≡ name ∷ pieces rest
pieces_behind name rest is = slice_split_at (λ c. eqb c 47) name 47 rest (All-from_recursion (λ c. eqb c 47 ≡ false) name (no_slash name is)) refl

-- a name in a directory
pub pieces_front : (names : List Name) (name : Name) → AllByRecursion IsName names → IsName name → pieces (front_of names ++ name) ≡ names ++ name ∷ []
pieces_front [] name all is = pieces_name name is
pieces_front (first ∷ names) name all is =
    ap pieces (append_assoc (first ++ 47 ∷ []) (front_of names) name ∙ append_assoc first (47 ∷ []) (front_of names ++ name))
    ∙ pieces_behind first (front_of names ++ name) all.0
    ∙ ap (λ rest. first ∷ rest) (pieces_front names name all.1 is)

pub front_push : (names : List Name) (name : Name) → (front_of names ++ name) ++ 47 ∷ [] ≡ front_of (names ++ name ∷ [])
front_push [] name = sym (append-nil (name ++ 47 ∷ []))
front_push (first ∷ names) name =
    append_assoc ((first ++ 47 ∷ []) ++ front_of names) name (47 ∷ []) ∙ append_assoc (first ++ 47 ∷ []) (front_of names) (name ++ 47 ∷ [])
    ∙ ap (λ (rest : Path). (first ++ 47 ∷ []) ++ rest) (sym (append_assoc (front_of names) name (47 ∷ [])) ∙ front_push names name)

-- two paths of the same pieces are one
pub same_pieces : (p q : Path) → pieces p ≡ pieces q → p ≡ q
same_pieces p q same = sym (join_with_byte-slice_split 47 p) ∙ ap (join_with_byte 47) same ∙ join_with_byte-slice_split 47 q

pub some_piece : (p : Path) → (first : Name) × (more : List Name) × (pieces p ≡ first ∷ more)
some_piece [] = ([], [], refl)
some_piece (c ∷ p) = by_test (eqb c 47) refl
  where
    onto : (parts : List Name) → (first : Name) × (more : List Name) × (onto_first c parts ≡ first ∷ more)
    onto [] = (c ∷ [], [], refl)
    onto (part ∷ parts) = (c ∷ part, parts, refl)

    by_test : (b : Bool) → eqb c 47 ≡ b → (first : Name) × (more : List Name) × (cond b ([] ∷ pieces p) (onto_first c (pieces p)) ≡ first ∷ more)
    by_test true e = ([], pieces p, refl)
    by_test false e = onto (pieces p)

-- no piece has a slash
pub pieces_whole : (p : Path) → AllByRecursion IsName (pieces p)
pieces_whole [] = (refl, tt)
pieces_whole (c ∷ p) = by_test (eqb c 47) refl (pieces_whole p)
  where
    onto : eqb c 47 ≡ false → (parts : List Name) → AllByRecursion IsName parts → AllByRecursion IsName (onto_first c parts)
    onto e [] all = (ap (λ (b : Bool). b || false) e, tt)
    onto e (part ∷ parts) all = (ap (λ (b : Bool). b || list_any (λ d. eqb d 47) part) e ∙ all.0, all.1)

    by_test : (b : Bool) → eqb c 47 ≡ b → AllByRecursion IsName (pieces p) → AllByRecursion IsName (cond b ([] ∷ pieces p) (onto_first c (pieces p)))
    by_test true e all = (refl, all)
    by_test false e all = onto e (pieces p) all

-- ---- rows below rows

module _ (objects : List Content) where
  pub row_at-push : (tree : Option ObjectId) (names : List Name) (name : Name) → row_at objects tree (names ++ name ∷ []) ≡ entry_at objects (tree_at objects tree names) name
  row_at-push tree [] name = refl
  row_at-push tree (first ∷ []) name = refl
  row_at-push tree (first ∷ next ∷ names) name = row_at-push (tree_below (entry_at objects tree first)) (next ∷ names) name

  pub tree_at-push : (tree : Option ObjectId) (names : List Name) (name : Name) → tree_at objects tree (names ++ name ∷ []) ≡ tree_below (row_at objects tree (names ++ name ∷ []))
  tree_at-push tree [] name = refl
  tree_at-push tree (first ∷ []) name = refl
  tree_at-push tree (first ∷ next ∷ names) name = tree_at-push (tree_below (entry_at objects tree first)) (next ∷ names) name

  -- below names is what is below their tree
  row_at-append : (tree : Option ObjectId) (names : List Name) (next : Name) (more : List Name) → row_at objects tree (names ++ next ∷ more) ≡ row_at objects (tree_at objects tree names) (next ∷ more)
  row_at-append tree [] next more = refl
  row_at-append tree (first ∷ []) next more = refl
  row_at-append tree (first ∷ second ∷ names) next more = row_at-append (tree_below (entry_at objects tree first)) (second ∷ names) next more

  none_in_none : (name : Name) (more : List Name) → row_at objects None (name ∷ more) ≡ None
  none_in_none name [] = refl
  none_in_none name (next ∷ more) = none_in_none next more

  -- where nothing is, nothing is below
  pub none_below : (tree : Option ObjectId) (names : List Name) (name next : Name) (more : List Name) → row_at objects tree (names ++ name ∷ []) ≡ None → row_at objects tree ((names ++ name ∷ []) ++ next ∷ more) ≡ None
  none_below tree names name next more none =
      row_at-append tree (names ++ name ∷ []) next more
      ∙ ap (λ (t : Option ObjectId). row_at objects t (next ∷ more)) (tree_at-push tree names name ∙ ap tree_below none)
      ∙ none_in_none next more

-- ---- entries have names

both_parts : (a b : Bool) → (a && b) ≡ true → b ≡ true
both_parts true b is = is
both_parts false b is = absurd cc

not_true : (b : Bool) → not b ≡ true → b ≡ false
not_true true is = absurd cc
not_true false is = refl

found_name : (es : List Entry) (name : Name) (e : Entry) → AllByRecursion IsEntry es → entry_named es name ≡ Some e → IsName name
found_name [] name e all is = absurd cc
found_name (f ∷ es) name e all is = by_test (found_name es name e all.1) (bytes_eq f.name name) refl is
  where
    by_test : (entry_named es name ≡ Some e → IsName name) → (b : Bool) → bytes_eq f.name name ≡ b → cond b (Some f) (entry_named es name) ≡ Some e → IsName name
    by_test rest true same is = subst (λ (n : Name). IsName n) (same_bytes f.name name same) (not_true _ (both_parts _ _ all.0.name))
    by_test rest false other is = rest is

each_entry : (o : Option Content) → AllByRecursion IsEntry (entries_in o)
each_entry None = tt
each_entry (Some o) = by_kind o.kind o.body
  where
    by_kind : (kind : Kind) (body : List ℕ) → AllByRecursion IsEntry (entries_of kind body)
    by_kind Commit body = tt
    by_kind Tree body = (items_spelled tree_entry spelled_entry IsEntry entry_takes body).1
    by_kind Blob body = tt
    by_kind Tag body = tt

-- what is in a tree has a name without `/`
pub entry_at-name : (objects : List Content) (tree : Option ObjectId) (name : Name) (e : Entry) → entry_at objects tree name ≡ Some e → IsName name
entry_at-name objects tree name e is = found_name (entries_in (object_at objects tree)) name e (each_entry (object_at objects tree)) is
