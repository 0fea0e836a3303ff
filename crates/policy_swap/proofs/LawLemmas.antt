-- Laws of the conf at a commit.
use Rattle.std.proofs.Common.{◌≡◌, ℕ, Bool, true, false, cond, ◌&&◌, not, T, List, [], ◌∷◌, ◌++◌, map, codes, Option, None, Some, Contains, refl, sym, ◌∙◌, ap, subst, ◌⊎◌, inl, inr, Result, Ok, Err}
use Rattle.std.specs.Prelude.{is_some}
use Rattle.std.specs.List.{AllByRecursion}
use Rattle.std.specs.List.Sorted.{IsStrictlySortedBy}
use Rattle.std.specs.declared.cmp.Ordering.{Ordering}
use Rattle.std.specs.declared.cmp.Ordering.TheVariants.{Less}
use Rattle.std.specs.Ordering.{is_lt}
use Rattle.std.specs.FinMap as named
use Rattle.std.specs.FinMap.{find, is_sorted}
use Rattle.std.specs.FinMap.Entries.{below_all}
use Rattle.base_types.proofs.NameMaps.{same_names}
use Rattle.ancestry.proofs.ListLemmas.{contains_map, map_contains}
use Rattle.git_object.specs.Content.{Content}
use Rattle.git_object.specs.declared.object_id.ObjectId.{ObjectId}
use Rattle.vref.specs.Root.{root_of}
use Rattle.vref.specs.Rows.{Path, row, row_at}
use Rattle.conf_groups.specs.Files.{by_name, is_missing}
use Rattle.conf_groups.specs.Splicing.{HasPlace, Spliced, before_all, is_too_large, main_name, spliced}
use Rattle.conf_groups.specs.declared.conf_file.ConfFile.{ConfFile}
use Rattle.conf_groups.specs.declared.fault.ConfFault.{ConfFault}
use Rattle.conf_groups.specs.declared.fault.ConfKind.{ConfKind}
use Rattle.conf_groups.specs.declared.fault.ConfKind.TheVariants as kind
use Rattle.policy_swap.specs.Conf.{AreFiles, HasTooManyRows, IsBeforeAll, IsTooLong, LacksMain, TellsFault, TellsOfConf, conf_name, conf_tree, file_at}
use Rattle.policy_swap.specs.Found.{listed}
use Rattle.policy_swap.specs.Laws.{IsOfConf}
use Rattle.policy_swap.proofs.RowLemmas.{pieces_behind, some_piece}
use Rattle.policy_swap.proofs.FoundLemmas.{by, Pair, by_name_files, contains_found, found_each}

-- ---- names

pub below_conf : (objects : List Content) (commit : ObjectId) (name : Path) → row objects (conf_tree objects commit) name ≡ row objects (root_of objects commit) (codes "conf/" ++ name)
below_conf objects commit name =
    let some = some_piece name in
    ap (row_at objects (conf_tree objects commit)) some.2
    ∙ sym (ap (row_at objects (root_of objects commit)) (pieces_behind conf_name name refl ∙ ap (λ (ns : List (List ℕ)). conf_name ∷ ns) some.2))

-- ---- two lists of files

abbrev pair_of : ConfFile → Pair
pair_of f = (f.name, f.text)

listed_pairs : (list : List ConfFile) → listed (map pair_of list) ≡ list
listed_pairs [] = refl
listed_pairs (f ∷ list) = ap (λ (fs : List ConfFile). f ∷ fs) (listed_pairs list)

both : (a b : Bool) → T a → T b → T (a && b)
both true b p q = q
both false b p q = absurd p

below_pairs : (x : List ℕ) (list : List ConfFile) → AllByRecursion (λ y. by x y ≡ Less) (map (λ (f : ConfFile). f.name) list) → T (below_all by x (map pair_of list))
below_pairs x [] all = tt
below_pairs x (f ∷ list) all = both _ _ (subst (λ (o : Ordering). T (is_lt o)) (sym all.0) tt) (below_pairs x list all.1)

sorted_pairs : (list : List ConfFile) → IsStrictlySortedBy by (map (λ (f : ConfFile). f.name) list) → T (is_sorted by (map pair_of list))
unfolding IsStrictlySortedBy
sorted_pairs [] sorted = tt
sorted_pairs (f ∷ list) sorted = both _ _ (below_pairs f.name list sorted.0) (sorted_pairs list sorted.1)

module _ (objects : List Content) (tree : Option ObjectId) where
  find_pairs : (list : List ConfFile) → AreFiles objects tree list → (q : List ℕ) → find by q (map pair_of list) ≡ file_at objects tree q
  find_pairs list are q = by_found (find by q (map pair_of list)) refl
    where
      by_file : (o : Option (List ℕ)) → file_at objects tree q ≡ o → find by q (map pair_of list) ≡ None → None ≡ file_at objects tree q
      by_file None e none = sym e
      by_file (Some text) e none =
          let there : Contains (map pair_of list) (q, text) = contains_map pair_of list (record { name = q; text = text }) ((are.are_those (record { name = q; text = text })).1 e) in
          let clash : Some text ≡ None = sym (found_each (map pair_of list) (q, text) (sorted_pairs list are.ascend) there) ∙ none in
          absurd cc

      by_found : (o : Option (List ℕ)) → find by q (map pair_of list) ≡ o → find by q (map pair_of list) ≡ file_at objects tree q
      by_found None is = is ∙ by_file (file_at objects tree q) refl is
      by_found (Some text) is =
          let at = map_contains pair_of list (q, text) (contains_found (map pair_of list) q text is) in
          is ∙ sym (subst (λ (e : Pair). file_at objects tree e.0 ≡ Some e.1) at.2 ((are.are_those at.0).0 at.1))

  pub files_once : (one other : List ConfFile) → AreFiles objects tree one → AreFiles objects tree other → one ≡ other
  files_once one other a b =
      let up1 : T (is_sorted by (map pair_of one)) = sorted_pairs one a.ascend in
      let up2 : T (is_sorted by (map pair_of other)) = sorted_pairs other b.ascend in
      let same : named.from_sorted {R = by} (map pair_of one) ≡ named.from_sorted (map pair_of other) =
      same_names _ _ (λ q. named.get-from_sorted by (map pair_of one) q up1 ∙ find_pairs one a q ∙ sym (find_pairs other b q) ∙ sym (named.get-from_sorted by (map pair_of other) q up2)) in
      sym (listed_pairs one)
      ∙ ap listed (sym (named.entries-from_sorted by (map pair_of one) up1) ∙ ap named.entries same ∙ named.entries-from_sorted by (map pair_of other) up2)
      ∙ listed_pairs other

  -- ---- faults

  the_fault : (e : ConfFault) (k : ConfKind) → e.kind ≡ k → IsBeforeAll e → e ≡ record { kind = k; file = main_name; line = 0 }
  the_fault e k is place = λ i. record { kind = is i; file = place.0 i; line = place.1 i }

  module _ (files : List ConfFile) (few : ¬ HasTooManyRows objects tree) (are : AreFiles objects tree files) where
    alike : (other : List ConfFile) → AreFiles objects tree other → by_name other ≡ by_name files
    alike other is = ap by_name (files_once other files is are)

    large : IsTooLong objects tree → is_too_large (by_name files) ≡ true
    large (inl many) = absurd (few many)
    large (inr other) = sym (ap is_too_large (alike other.0 other.1)) ∙ other.2

    not_large : ¬ IsTooLong objects tree → is_too_large (by_name files) ≡ false
    not_large fits = by_test (is_too_large (by_name files)) refl
      where
        by_test : (b : Bool) → is_too_large (by_name files) ≡ b → b ≡ false
        by_test true is = absurd (fits (inr (files, are, is)))
        by_test false is = refl

    missing : LacksMain objects tree → is_missing (by_name files) main_name ≡ true
    missing none = ap (λ (o : Option (List ℕ)). not (is_some o)) (by_name_files objects tree files are main_name ∙ none)

    by_size : (b : Bool) (rest : Spliced) → b ≡ true → cond b (before_all kind.TooLong) rest ≡ before_all kind.TooLong
    by_size true rest is = refl
    by_size false rest is = absurd cc

    by_main : (a b : Bool) (rest : Spliced) → a ≡ false → b ≡ true → cond a (before_all kind.TooLong) (cond b (before_all (kind.NoFile main_name)) rest) ≡ before_all (kind.NoFile main_name)
    by_main false true rest fits none = refl
    by_main false false rest fits none = absurd cc
    by_main true b rest fits none = absurd cc

    pub spliced_agrees : (k : ConfKind) (e : ConfFault) → e.kind ≡ k → TellsFault objects tree k e → HasPlace k → spliced files ≡ Err e
    spliced_agrees kind.TooLong e is tells place = by_size (is_too_large (by_name files)) _ (large tells.0) ∙ ap (λ (f : ConfFault). Err f) (sym (the_fault e kind.TooLong is tells.1))
    spliced_agrees (kind.NoFile name) e is tells place =
        by_main (is_too_large (by_name files)) (is_missing (by_name files) main_name) _ (not_large tells.0) (missing tells.1)
        ∙ ap (λ (f : ConfFault). Err f) (sym (the_fault e (kind.NoFile main_name) (is ∙ ap (λ (n : List ℕ). kind.NoFile n) tells.2) tells.3))
    spliced_agrees kind.NoMemory e is tells place = absurd place
    spliced_agrees (kind.Lex fault) e is tells place = absurd tells
    spliced_agrees kind.SubconfInSubconf e is tells place = absurd tells

  -- ---- one answer

  abbrev Due : ConfFault → Type 0
  Due e = (IsTooLong objects tree × (e ≡ record { kind = kind.TooLong; file = main_name; line = 0 })) ⊎ (¬ IsTooLong objects tree × LacksMain objects tree × (e ≡ record { kind = kind.NoFile main_name; file = main_name; line = 0 }))

  due : (k : ConfKind) (e : ConfFault) → e.kind ≡ k → TellsFault objects tree k e → HasPlace k → Due e
  due kind.TooLong e is tells place = inl (tells.0, the_fault e kind.TooLong is tells.1)
  due (kind.NoFile name) e is tells place = inr (tells.0, tells.1, the_fault e (kind.NoFile main_name) (is ∙ ap (λ (n : List ℕ). kind.NoFile n) tells.2) tells.3)
  due kind.NoMemory e is tells place = absurd place
  due (kind.Lex fault) e is tells place = absurd tells
  due kind.SubconfInSubconf e is tells place = absurd tells

  no_due : (e : ConfFault) → ¬ IsTooLong objects tree → ¬ LacksMain objects tree → Due e → ⊥
  no_due e fits has (inl is) = fits is.0
  no_due e fits has (inr is) = has is.1

  same_due : (e f : ConfFault) → Due e → Due f → e ≡ f
  same_due e f (inl a) (inl b) = a.1 ∙ sym b.1
  same_due e f (inl a) (inr b) = absurd (b.0 a.0)
  same_due e f (inr a) (inl b) = absurd (a.0 b.0)
  same_due e f (inr a) (inr b) = a.2 ∙ sym b.2

  pub one_answer : (one other : Result (List ConfFile) ConfFault) → TellsOfConf objects tree one → TellsOfConf objects tree other → IsOfConf one → IsOfConf other → one ≡ other
  one_answer (Ok a) (Ok b) tells1 tells2 is1 is2 = ap (λ (l : List ConfFile). Ok l) (files_once a b tells1.2 tells2.2)
  one_answer (Ok a) (Err f) tells1 tells2 is1 is2 = absurd (no_due f tells1.0 tells1.1 (due f.kind f refl tells2 is2))
  one_answer (Err e) (Ok b) tells1 tells2 is1 is2 = absurd (no_due e tells2.0 tells2.1 (due e.kind e refl tells1 is1))
  one_answer (Err e) (Err f) tells1 tells2 is1 is2 = ap (λ (g : ConfFault). Err g) (same_due e f (due e.kind e refl tells1 is1) (due f.kind f refl tells2 is2))
