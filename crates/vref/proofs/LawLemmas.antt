-- Laws of rows and of lists in order.
use Rattle.std.proofs.Common.{◌≡◌, ℕ, Bool, true, false, cond, ◌||◌, not, eqb, List, [], ◌∷◌, ◌++◌, Option, Some, Contains, refl, sym, ◌∙◌, ap, subst, ◌⊎◌, inl, inr}
use Rattle.std.specs.List.{onto_first}
use Rattle.std.specs.List.Sorted.{IsStrictlySortedBy}
use Rattle.std.specs.Ordering.{ordering_reverse}
use Rattle.std.specs.declared.cmp.Ordering.{Ordering}
use Rattle.std.specs.declared.cmp.Ordering.TheVariants.{Less}
use Rattle.std.specs.Cmp.{IsTotalOrder}
use Rattle.std.proofs.lemmas.Cmp.{nat_list_cmp_total}
use Rattle.std.proofs.lemmas.List.Elements.{All-contains, All-weaker}
use Rattle.std.proofs.lemmas.Map.Views.{All-after_first}
use Rattle.ref_store.specs.Refs.{IsBelow}
use Rattle.ref_store.specs.RefName.{pieces}
use Rattle.ancestry.proofs.ListLemmas.{contains_none, contains_here, contains_there, contains_cases}
use Rattle.git_object.specs.Content.{Content}
use Rattle.git_object.specs.Tree.{Entry, is_directory}
use Rattle.git_object.specs.declared.object_id.ObjectId.{ObjectId}
use Rattle.vref.specs.Rows.{Name, IsName, Path, entry_at, tree_below, row, row_at}
use Rattle.vref.specs.Paths.{Differs, DifferTooMuch, IsChanged, Lists, is_file, is_listed}
use Rattle.vref.specs.Walk.{tree_at}
use Rattle.vref.proofs.RowLemmas.{pieces_name, some_piece, row_at-append, row_at-push}

-- ---- pieces of what is put together by a slash

onto_append : (c : ℕ) (part : Name) (parts more : List Name) → onto_first c ((part ∷ parts) ++ more) ≡ onto_first c (part ∷ parts) ++ more
onto_append c part parts more = refl

pub pieces_joined : (front rest : Path) → pieces (front ++ 47 ∷ rest) ≡ pieces front ++ pieces rest
pieces_joined [] rest = refl
pieces_joined (c ∷ front) rest = by_test (eqb c 47) refl (pieces_joined front rest) (some_piece front)
  where
    by_test : (b : Bool) → eqb c 47 ≡ b → pieces (front ++ 47 ∷ rest) ≡ pieces front ++ pieces rest → (first : Name) × (more : List Name) × (pieces front ≡ first ∷ more)
        → cond b ([] ∷ pieces (front ++ 47 ∷ rest)) (onto_first c (pieces (front ++ 47 ∷ rest))) ≡ cond b ([] ∷ pieces front) (onto_first c (pieces front)) ++ pieces rest
    by_test true e same some = ap (λ (ps : List Name). [] ∷ ps) same
    by_test false e same some =
        ap (onto_first c) (same ∙ ap (λ (ps : List Name). ps ++ pieces rest) some.2) ∙ sym (ap (λ (ps : List Name). onto_first c ps ++ pieces rest) some.2)

module _ (objects : List Content) where
  tree_at-some : (tree : Option ObjectId) (first : Name) (more : List Name) → tree_at objects tree (first ∷ more) ≡ tree_below (row_at objects tree (first ∷ more))
  tree_at-some tree first [] = refl
  tree_at-some tree first (next ∷ more) = tree_at-some (tree_below (entry_at objects tree first)) next more

  pub tree_at-row : (tree : Option ObjectId) (path : Path) → tree_at objects tree (pieces path) ≡ tree_below (row objects tree path)
  tree_at-row tree path =
      let some = some_piece path in
      ap (tree_at objects tree) some.2 ∙ tree_at-some tree some.0 some.1 ∙ sym (ap (λ (ns : List Name). tree_below (row_at objects tree ns)) some.2)

  pub row_of_root : (tree : Option ObjectId) (name : Name) → IsName name → row objects tree name ≡ entry_at objects tree name
  row_of_root tree name is = ap (row_at objects tree) (pieces_name name is)

  pub row_below : (tree : Option ObjectId) (path : Path) (name : Name) → IsName name → row objects tree (path ++ 47 ∷ name) ≡ entry_at objects (tree_below (row objects tree path)) name
  row_below tree path name is =
      ap (row_at objects tree) (pieces_joined path name ∙ ap (λ (ns : List Name). pieces path ++ ns) (pieces_name name is))
      ∙ row_at-push objects tree (pieces path) name
      ∙ ap (λ (t : Option ObjectId). entry_at objects t name) (tree_at-row tree path)

  row_behind : (tree : Option ObjectId) (front rest : Path) → (first : Name) (more : List Name) → pieces rest ≡ first ∷ more → row objects tree (front ++ 47 ∷ rest) ≡ row_at objects (tree_below (row objects tree front)) (first ∷ more)
  row_behind tree front rest first more is =
      ap (row_at objects tree) (pieces_joined front rest ∙ ap (λ (ns : List Name). pieces front ++ ns) is)
      ∙ row_at-append objects tree (pieces front) first more
      ∙ ap (λ (t : Option ObjectId). row_at objects t (first ∷ more)) (tree_at-row tree front)

  pub directories_differ : (old new : Option ObjectId) (path directory : Path) → IsBelow path directory → Differs objects old new path → Differs objects old new directory
  directories_differ old new path directory below differs same =
      let some = some_piece below.0 in
      differs (ap (row objects old) below.1 ∙ row_behind old directory below.0 some.0 some.1 some.2
      ∙ ap (λ o. row_at objects (tree_below o) (some.0 ∷ some.1)) same
      ∙ sym (ap (row objects new) below.1 ∙ row_behind new directory below.0 some.0 some.1 some.2))

-- ---- both ways, and files

pub too_many_turned : (objects : List Content) (old new : Option ObjectId) → DifferTooMuch objects old new → DifferTooMuch objects new old
too_many_turned objects old new (inl is) = inl (is.0, is.1, All-weaker (Differs objects old new) (Differs objects new old) (λ p differs same. differs (sym same)) is.0 is.2, is.3)
too_many_turned objects old new (inr is) = inr (is.0, (λ same. is.1 (sym same)), is.2)

pub files_listed : (objects : List Content) (old new : Option ObjectId) (paths : List Path) → Lists (IsChanged objects old new) paths
    → (path : Path) (file : Entry) → row objects old path ≡ Some file → is_directory file ≡ false → ¬ (row objects new path ≡ Some file) → Contains paths path
files_listed objects old new paths lists path file is no_directory differs =
    let differ : Differs objects old new path = λ same. differs (sym same ∙ is) in
    let listed : is_listed objects old new path ≡ true =
    ap (λ (o : Option Entry). is_file o || is_file (row objects new path)) is ∙ ap (λ (b : Bool). not b || is_file (row objects new path)) no_directory in
    (lists.are_those path).1 (differ, listed)

-- ---- lists in order

module _ {K : Type 0} {R : K → K → Ordering} (o : IsTotalOrder R) where
  not_both : (x y : K) → R x y ≡ Less → R y x ≡ Less → ⊥
  not_both x y one other = cc (one, o.antisymm x y, ap ordering_reverse other)

  not_itself : (x y : K) → R x y ≡ Less → x ≡ y → ⊥
  not_itself x y less same = not_both x y less (subst (λ (z : K). R z x ≡ Less) same (subst (λ (z : K). R x z ≡ Less) (sym same) less))

  heads : (x y : K) (xs ys : List K) → IsStrictlySortedBy R (x ∷ xs) → IsStrictlySortedBy R (y ∷ ys) → Contains (y ∷ ys) x → Contains (x ∷ xs) y → x ≡ y
  heads x y xs ys up1 up2 one other = by_place (contains_cases y ys x one) (contains_cases x xs y other)
    where
      by_place : (y ≡ x) ⊎ Contains ys x → (x ≡ y) ⊎ Contains xs y → x ≡ y
      by_place (inl same) there = sym same
      by_place (inr in1) (inl same) = same
      by_place (inr in1) (inr in2) =
          absurd (not_both x y (All-contains (λ q. R x q ≡ Less) xs y (All-after_first R x xs up1) in2) (All-contains (λ q. R y q ≡ Less) ys x (All-after_first R y ys up2) in1))

  pub same_sorted : (xs ys : List K) → IsStrictlySortedBy R xs → IsStrictlySortedBy R ys → ((x : K) → Contains xs x → Contains ys x) → ((x : K) → Contains ys x → Contains xs x) → xs ≡ ys
  unfolding IsStrictlySortedBy
  same_sorted [] [] up1 up2 forth back = refl
  same_sorted [] (y ∷ ys) up1 up2 forth back = absurd (contains_none y (back y (contains_here y ys)))
  same_sorted (x ∷ xs) [] up1 up2 forth back = absurd (contains_none x (forth x (contains_here x xs)))
  same_sorted (x ∷ xs) (y ∷ ys) up1 up2 forth back =
      let head : x ≡ y = heads x y xs ys up1 up2 (forth x (contains_here x xs)) (back y (contains_here y ys)) in
      let rest : xs ≡ ys =
      same_sorted xs ys up1.1 up2.1
      (λ z c. tail x y xs ys z head up1 c (contains_cases y ys z (forth z (contains_there x xs z c))))
      (λ z c. tail y x ys xs z (sym head) up2 c (contains_cases x xs z (back z (contains_there y ys z c)))) in
      λ i. head i ∷ rest i
    where
      tail : (a b : K) (xs2 ys2 : List K) (z : K) → a ≡ b → IsStrictlySortedBy R (a ∷ xs2) → Contains xs2 z → (b ≡ z) ⊎ Contains ys2 z → Contains ys2 z
      tail a b xs2 ys2 z head up c (inr there) = there
      tail a b xs2 ys2 z head up c (inl same) = absurd (not_itself a z (All-contains (λ q. R a q ≡ Less) xs2 z (All-after_first R a xs2 up) c) (head ∙ same))

pub lists_once : (P : Path → Type 0) (one other : List Path) → Lists P one → Lists P other → one ≡ other
lists_once P one other a b =
    same_sorted nat_list_cmp_total one other a.ascend b.ascend (λ p c. (b.are_those p).1 ((a.are_those p).0 c)) (λ p c. (a.are_those p).1 ((b.are_those p).0 c))
