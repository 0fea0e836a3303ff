-- Steps of the walk over the rows below a tree.
use Rattle.std.proofs.Common.{◌≡◌, ℕ, ◌+◌, ◌<◌, ◌≤◌, Bool, true, false, cond, ◌&&◌, nat_le, codes, List, [], ◌∷◌, ◌++◌, length, get_or, map, Option, None, Some, Contains, refl, sym, ◌∙◌, ap, subst, arith, ◌⊎◌, inl, inr, append_assoc, append-nil, length-append, take, drop, Result, Ok, Err}
use Rattle.std.specs.List.{AllByRecursion, AllZip}
use Rattle.std.specs.Result.{IsErrAnd, MatchResult}
use Rattle.std.specs.Str.{bytes_eq}
use Rattle.std.specs.Cmp.Lexicographic.{nat_list_eq_equiv}
use Rattle.std.proofs.lemmas.Bool.{leb-true, leb-false}
use Rattle.std.proofs.lemmas.List.{map-append, length-map, take_more, drop_more, take-append-drop}
use Rattle.std.proofs.lemmas.List.Elements.{All-push, All-contains, Contains-append_left, Contains-append_right, Contains-push, Contains-push_cases}
use Rattle.ref_store.specs.Objects.{first_named}
use Rattle.ref_store.specs.RefName.{pieces}
use Rattle.ref_store.proofs.ObjectLemmas.{same_bytes}
use Rattle.ancestry.proofs.ListLemmas.{contains_none, contains_here, contains_there, contains_cases, contains_map, map_contains}
use Rattle.git_object.specs.Content.{Content}
use Rattle.git_object.specs.Tree.{Entry, entry_of, is_directory}
use Rattle.git_object.specs.declared.tree.TreeEntry.{TreeEntry}
use Rattle.git_object.specs.declared.object_id.ObjectId.{ObjectId}
use Rattle.vref.specs.Rows.{Name, IsName, Path, entries_in, entry_named, object_at, entry_at, tree_below, row_at}
use Rattle.vref.specs.Walk.{front_of, tree_at}
use Rattle.conf_groups.specs.declared.conf_file.TheConstants.{MAX_FILE_NAME}
use Rattle.policy_swap.specs.Conf.{AreOnce, HasRow, HasTooManyRows, file_at, file_of, is_conf_mode, text_in}
use Rattle.policy_swap.specs.Rows.{Expands, Goes, HasMet, HasMetIn, IsFront, IsIn, IsInOr, IsMet, IsNoFile, IsRow, IsWalked, file_row, front_below, other_row, places, row_of}
use Rattle.policy_swap.specs.Trees.{AreEntries}
use Rattle.policy_swap.specs.declared.rows.Folder.{Folder}
use Rattle.policy_swap.specs.declared.rows.Row.{Row}
use Rattle.policy_swap.specs.declared.rows.Stop.{Stop}
use Rattle.policy_swap.specs.declared.rows.Row.TheVariants.{Directory, File, Other}
use Rattle.policy_swap.specs.declared.rows.TheConstants.{MAX_ROWS}
use Rattle.policy_swap.proofs.RowLemmas.{pieces_front, front_push, same_pieces, some_piece, pieces_whole, row_at-push, tree_at-push, none_below, entry_at-name}
use Rattle.policy_swap.proofs.ListLemmas.{last_same, once_push, fewer, zip_push, zip_length, zip_at, not_seen, is_seen}

-- ---- places

places_push : (paths : List Path) (path : Path) → places (paths ++ path ∷ []) ≡ places paths ++ pieces path ∷ []
places_push paths path = ap (λ (ns : List (List Name)). [] ∷ ns) (map-append pieces paths (path ∷ []))

pub place_whole : (paths : List Path) (names : List Name) → Contains (places paths) names → AllByRecursion IsName names
place_whole paths names c =
    elim (contains_cases [] (map pieces paths) names c) [
      | inl root ↦ subst (λ (ns : List Name). AllByRecursion IsName ns) root tt
      | inr there ↦ let found = map_contains pieces paths names there in subst (λ (ns : List Name). AllByRecursion IsName ns) found.2 (pieces_whole found.0)
    ]

-- no place comes twice
paths_apart : (paths : List Path) (before : List (List Name)) (here : List Name) (after : List (List Name)) → AreOnce paths → map pieces paths ≡ before ++ here ∷ after → Contains before here → ⊥
paths_apart [] [] here after once is c = contains_none here c
paths_apart [] (ns ∷ before) here after once is c = absurd cc
paths_apart (p ∷ paths) [] here after once is c = contains_none here c
paths_apart (p ∷ paths) (ns ∷ before) here after once is c =
    let head : pieces p ≡ ns = cc in
    let tail : map pieces paths ≡ before ++ here ∷ after = cc in
    elim (contains_cases ns before here c) [
      | inl same ↦
          let found = map_contains pieces paths here (subst (λ (l : List (List Name)). Contains l here) (sym tail) (Contains-append_right before (here ∷ after) here (contains_here here after))) in
          once.0 (subst (λ (q : Path). Contains paths q) (same_pieces found.0 p (found.2 ∙ sym same ∙ sym head)) found.1)
      | inr there ↦ paths_apart paths before here after once.1 tail there
    ]

places_apart : (paths : List Path) (before : List (List Name)) (here : List Name) (after : List (List Name)) → AreOnce paths → places paths ≡ before ++ here ∷ after → Contains before here → ⊥
places_apart paths [] here after once is c = contains_none here c
places_apart paths (ns ∷ before) here after once is c =
    let head : [] ≡ ns = cc in
    let tail : map pieces paths ≡ before ++ here ∷ after = cc in
    elim (contains_cases ns before here c) [
      | inl same ↦
          let found = map_contains pieces paths here (subst (λ (l : List (List Name)). Contains l here) (sym tail) (Contains-append_right before (here ∷ after) here (contains_here here after))) in
          let some = some_piece found.0 in
          let clash : some.0 ∷ some.1 ≡ [] = sym some.2 ∙ found.2 ∙ sym same ∙ sym head in
          absurd cc
      | inr there ↦ paths_apart paths before here after once tail there
    ]

-- ---- the row of an entry

directory_is_no_file : (mode : List ℕ) → bytes_eq mode (codes "40000") ≡ true → is_conf_mode mode ≡ false
directory_is_no_file mode is = subst (λ (m : List ℕ). is_conf_mode m ≡ false) (sym (same_bytes mode (codes "40000") is)) refl

module _ (objects : List Content) (tree : Option ObjectId) where
  module _ (names : List Name) (front : Option (List ℕ)) (e : Entry) (fits : IsFront names front) (whole : AllByRecursion IsName names) (found : entry_at objects (tree_at objects tree names) e.name ≡ Some e) where
    abbrev here : List Name
    here = names ++ e.name ∷ []

    abbrev full : Path
    full = front_of names ++ e.name

    pub here_pieces : pieces full ≡ here
    here_pieces = pieces_front names e.name whole (entry_at-name objects (tree_at objects tree names) e.name e found)

    pub here_row : row_at objects tree here ≡ Some e
    here_row = row_at-push objects tree names e.name ∙ found

    pub here_there : HasRow objects tree full
    here_there none = let clash : Some e ≡ None = sym here_row ∙ ap (row_at objects tree) (sym here_pieces) ∙ none in absurd cc

    here_tree : tree_at objects tree here ≡ tree_below (Some e)
    here_tree = tree_at-push objects tree names e.name ∙ ap tree_below here_row

    -- the file at a path of these names
    file_here : (p : Path) → pieces p ≡ here → file_at objects tree p ≡ file_of objects p (Some e)
    file_here p is = ap (file_of objects p) (ap (row_at objects tree) is ∙ here_row)

    path_here : (p : Path) → pieces p ≡ here → p ≡ full
    path_here p is = same_pieces p full (is ∙ sym here_pieces)

    none_by_mode : is_conf_mode e.mode ≡ false → IsNoFile objects tree here
    none_by_mode other p is = file_here p is ∙ ap (λ (b : Bool). cond (b && nat_le (length p) MAX_FILE_NAME) (text_in (first_named objects e.id)) None) other

    both_false : (a b : Bool) → b ≡ false → (a && b) ≡ false
    both_false true b is = is
    both_false false b is = refl

    none_by_length : MAX_FILE_NAME < length full → IsNoFile objects tree here
    none_by_length long p is =
        file_here p is
        ∙ ap (λ (b : Bool). cond b (text_in (first_named objects e.id)) None) (both_false (is_conf_mode e.mode) _ (ap (λ (q : Path). nat_le (length q) MAX_FILE_NAME) (path_here p is) ∙ long_name (nat_le (length full) MAX_FILE_NAME) refl))
      where
        long_name : (b : Bool) → nat_le (length full) MAX_FILE_NAME ≡ b → b ≡ false
        long_name true short = absurd (omega (arith, long, leb-true _ _ short))
        long_name false short = refl

    front_here : (f : Option (List ℕ)) → IsFront names f → IsFront here (front_below f e.name)
    front_here None long = omega (arith, long, length-append (front_of names) (e.name ++ 47 ∷ []), ap length (sym (append_assoc (front_of names) e.name (47 ∷ [])) ∙ front_push names e.name))
    front_here (Some f) is = by_test (nat_le (length ((f ++ e.name) ++ 47 ∷ [])) MAX_FILE_NAME) refl
      where
        text_is : (f ++ e.name) ++ 47 ∷ [] ≡ front_of here
        text_is = ap (λ (g : List ℕ). (g ++ e.name) ++ 47 ∷ []) is ∙ front_push names e.name

        by_test : (b : Bool) → nat_le (length ((f ++ e.name) ++ 47 ∷ [])) MAX_FILE_NAME ≡ b → IsFront here (cond b (Some ((f ++ e.name) ++ 47 ∷ [])) None)
        by_test true short = text_is
        by_test false long = subst (λ (t : List ℕ). MAX_FILE_NAME < length t) text_is (leb-false _ _ long)

    file_right : (p : Path) → p ≡ full → tree_below (Some e) ≡ None → (o : Option (List ℕ)) → file_of objects p (Some e) ≡ o → IsRow objects tree here (file_row p o)
    file_right p is none None file = (here_tree ∙ none, λ q parts. file_here q parts ∙ ap (λ (r : Path). file_of objects r (Some e)) (path_here q parts ∙ sym is) ∙ file)
    file_right p is none (Some text) file =
        let parts : pieces p ≡ here = ap pieces is ∙ here_pieces in
        (here_tree ∙ none, parts, file_here p parts ∙ file)

    other_right : (f : Option (List ℕ)) → IsFront names f → tree_below (Some e) ≡ None → IsRow objects tree here (other_row objects f e)
    other_right None long none = (here_tree ∙ none, none_by_length (omega (arith, long, length-append (front_of names) e.name)))
    other_right (Some f) is none = file_right (f ++ e.name) (ap (λ (g : List ℕ). g ++ e.name) is) none (file_of objects (f ++ e.name) (Some e)) refl

    pub row_right : IsRow objects tree here (row_of objects front e)
    row_right = by_test (is_directory e) refl
      where
        by_test : (b : Bool) → is_directory e ≡ b → IsRow objects tree here (cond b (Directory (record { front = front_below front e.name; tree = Some e.id })) (other_row objects front e))
        by_test true is = (
          sym (here_tree ∙ ap (λ b. cond b (Some e.id) None) is),
          front_here front fits,
          none_by_mode (directory_is_no_file e.mode is),
        )
        by_test false is = other_right front fits (ap (λ b. cond b (Some e.id) None) is)

  -- ---- rows that were met

  met_alike : (L M : List Name → Name → Type 0) (rows : List Row) (paths : List Path) → ((ns : List Name) (n : Name) → L ns n → M ns n)
      → ((ns : List Name) (n : Name) → M ns n → ¬ (row_at objects tree (ns ++ n ∷ []) ≡ None) → L ns n) → IsMet objects tree L rows paths → IsMet objects tree M rows paths
  met_alike L M rows paths forth back met = record {
    each = met.each;
    there = met.there;
    once = met.once;
    looked = λ path c. let was = met.looked path c in (was.0, was.1, was.2, forth was.0 was.1 was.3);
    all = λ names name is has. met.all names name (back names name is has) has;
  }

  -- a name more was looked up, and its row is met
  met_push : (L : List Name → Name → Type 0) (rows : List Row) (paths : List Path) (names : List Name) (name : Name) (path : Path) (r : Row)
      → IsMet objects tree L rows paths → pieces path ≡ names ++ name ∷ [] → HasRow objects tree path → IsRow objects tree (names ++ name ∷ []) r → (L names name → ⊥)
      → IsMet objects tree (λ ns n. L ns n ⊎ ((ns ≡ names) × (n ≡ name))) (rows ++ r ∷ []) (paths ++ path ∷ [])
  met_push L rows paths names name path r met parts has right new = record {
    each =
        subst (λ (ps : List (List Name)). AllZip (IsRow objects tree) ps (rows ++ r ∷ [])) (sym (places_push paths path))
        (zip_push (IsRow objects tree) (places paths) rows (pieces path) r met.each (subst (λ (ns : List Name). IsRow objects tree ns r) (sym parts) right));
    there = All-push (HasRow objects tree) paths path met.there has;
    once = once_push paths path met.once fresh;
    looked = λ q c. by_place q (Contains-push_cases paths path q c);
    all = λ ns n is some. by_look ns n is some;
  }
    where
      fresh : Contains paths path → ⊥
      fresh c =
          let was = met.looked path c in
          let same = last_same was.0 names was.1 name (sym was.2 ∙ parts) in
          new (subst (λ (n : Name). L names n) same.1 (subst (λ (ns : List Name). L ns was.1) same.0 was.3))

      by_place : (q : Path) → Contains paths q ⊎ (path ≡ q) → (ns : List Name) × (n : Name) × (pieces q ≡ ns ++ n ∷ []) × (L ns n ⊎ ((ns ≡ names) × (n ≡ name)))
      by_place q (inl there) = let was = met.looked q there in (was.0, was.1, was.2, inl was.3)
      by_place q (inr same) = (names, name, ap pieces (sym same) ∙ parts, inr (refl, refl))

      still : (ns : List Name) → Contains (map pieces paths) ns → Contains (map pieces (paths ++ path ∷ [])) ns
      still ns c = subst (λ (l : List (List Name)). Contains l ns) (sym (map-append pieces paths (path ∷ []))) (Contains-append_left (map pieces paths) (pieces path ∷ []) ns c)

      now : Contains (map pieces (paths ++ path ∷ [])) (names ++ name ∷ [])
      now = subst (λ (ns : List Name). Contains (map pieces (paths ++ path ∷ [])) ns) parts (contains_map pieces (paths ++ path ∷ []) path (Contains-push paths path))

      by_look : (ns : List Name) (n : Name) → L ns n ⊎ ((ns ≡ names) × (n ≡ name)) → ¬ (row_at objects tree (ns ++ n ∷ []) ≡ None) → Contains (map pieces (paths ++ path ∷ [])) (ns ++ n ∷ [])
      by_look ns n (inl was) some = still (ns ++ n ∷ []) (met.all ns n was some)
      by_look ns n (inr is) some = subst (λ (l : List Name). Contains (map pieces (paths ++ path ∷ [])) l) (sym (λ i. is.0 i ++ is.1 i ∷ [])) now

  -- more rows than there may be
  met_too_many : (L : List Name → Name → Type 0) (rows : List Row) (paths : List Path) → IsMet objects tree L rows paths → MAX_ROWS + 1 < length rows → HasTooManyRows objects tree
  met_too_many L rows paths met many = (
    paths,
    met.once,
    met.there,
    omega (arith, many, zip_length (IsRow objects tree) (places paths) rows met.each, length-map paths pieces),
  )

  -- ---- a directory is looked through

  pub root_right : (text : List ℕ) → text ≡ [] → IsRow objects tree [] (Directory (record { front = Some text; tree = tree }))
  root_right text none = (refl, none, λ path is. let some = some_piece path in absurd (let clash : some.0 ∷ some.1 ≡ [] = sym some.2 ∙ is in cc))

  -- the root alone
  pub met_root : (r : Row) → IsRow objects tree [] r → Goes objects tree (r ∷ []) 0
  met_root r right = (
    omega arith,
    (
      [],
      [],
      [] ∷ [],
      record {
        parts = refl;
        count = refl;
        met = record {
          each = (right, tt);
          there = λ k d below. absurd (omega (arith, below));
          once = tt;
          looked = λ p c. absurd (contains_none p c);
          all = λ names name is some. absurd (contains_none names is);
        };
      },
    ),
  )

  -- the next row is at some place
  pub next_place : (rows : List Row) (at : ℕ) → at < length rows → Goes objects tree rows at → (d : Row) → (names : List Name) × IsRow objects tree names (get_or rows at d) × Expands objects tree rows at names []
  next_place rows at below goes d = by_after goes.1.0 goes.1.1 goes.1.2 goes.1.3
    where
      by_after : (paths : List Path) (before after : List (List Name)) → HasMet objects tree rows at paths before after → (names : List Name) × IsRow objects tree names (get_or rows at d) × Expands objects tree rows at names []
      by_after paths before [] has =
          absurd (omega (arith, below, has.count, zip_length (IsRow objects tree) (places paths) rows has.met.each, ap length has.parts, length-append before []))
      by_after paths before (names ∷ after) has = (
        names,
        subst (λ (k : ℕ). IsRow objects tree names (get_or rows k d)) has.count
            (zip_at (IsRow objects tree) before after names rows d (subst (λ (ps : List (List Name)). AllZip (IsRow objects tree) ps rows) has.parts has.met.each)),
        (
          goes.0,
          (
            paths,
            before,
            after,
            record {
              parts = has.parts;
              count = has.count;
              met = met_alike (IsIn objects tree before) (IsInOr objects tree before names []) rows paths (λ ns n is. inl is) (λ ns n is some. elim is [ inl was ↦ was | inr none ↦ absurd (contains_none n none.1) ]) has.met;
            },
          ),
        ),
      )

  -- an entry more
  module _ (rows : List Row) (at : ℕ) (names : List Name) (seen : List Entry) (front : Option (List ℕ)) (e : Entry) (fits : IsFront names front)
      (new : entry_named seen e.name ≡ None) (found : entry_at objects (tree_at objects tree names) e.name ≡ Some e) where
    add_met : (paths : List Path) (before after : List (List Name)) → HasMetIn objects tree rows at names seen paths before after
        → (more : List Path) × (later : List (List Name)) × HasMetIn objects tree (rows ++ row_of objects front e ∷ []) at names (seen ++ e ∷ []) more before later
    add_met paths before after has =
        let whole : AllByRecursion IsName names = place_whole paths names (subst (λ (ps : List (List Name)). Contains ps names) (sym has.parts) (Contains-append_right before (names ∷ after) names (contains_here names after))) in
        let path : Path = front_of names ++ e.name in
        let parts : pieces path ≡ names ++ e.name ∷ [] = here_pieces names front e fits whole found in
        let fresh : IsInOr objects tree before names seen names e.name → ⊥ = λ is. elim is [
          | inl was ↦ places_apart paths before names after has.met.once has.parts was
          | inr was ↦ not_seen seen e.name new was.1
        ] in (
          paths ++ path ∷ [],
          after ++ pieces path ∷ [],
          record {
            parts = places_push paths path ∙ ap (λ (ps : List (List Name)). ps ++ pieces path ∷ []) has.parts ∙ append_assoc before (names ∷ after) (pieces path ∷ []);
            count = has.count;
            met =
                met_alike _ (IsInOr objects tree before names (seen ++ e ∷ [])) (rows ++ row_of objects front e ∷ []) (paths ++ path ∷ []) forth (λ ns n is some. back ns n is)
                (met_push (IsInOr objects tree before names seen) rows paths names e.name path (row_of objects front e) has.met parts (here_there names front e fits whole found) (row_right names front e fits whole found) fresh);
          },
        )
      where
        names_push : map (λ (f : Entry). f.name) (seen ++ e ∷ []) ≡ map (λ (f : Entry). f.name) seen ++ e.name ∷ []
        names_push = map-append (λ (f : Entry). f.name) seen (e ∷ [])

        forth : (ns : List Name) (n : Name) → IsInOr objects tree before names seen ns n ⊎ ((ns ≡ names) × (n ≡ e.name)) → IsInOr objects tree before names (seen ++ e ∷ []) ns n
        forth ns n (inl (inl was)) = inl was
        forth ns n (inl (inr was)) = inr (was.0, subst (λ (l : List Name). Contains l n) (sym names_push) (Contains-append_left (map (λ (f : Entry). f.name) seen) (e.name ∷ []) n was.1))
        forth ns n (inr is) = inr (is.0, subst (λ (l : List Name). Contains l n) (sym names_push) (subst (λ (m : Name). Contains (map (λ (f : Entry). f.name) seen ++ e.name ∷ []) m) (sym is.1) (Contains-push (map (λ (f : Entry). f.name) seen) e.name)))

        back : (ns : List Name) (n : Name) → IsInOr objects tree before names (seen ++ e ∷ []) ns n → IsInOr objects tree before names seen ns n ⊎ ((ns ≡ names) × (n ≡ e.name))
        back ns n (inl was) = inl (inl was)
        back ns n (inr is) =
            elim (Contains-push_cases (map (λ (f : Entry). f.name) seen) e.name n (subst (λ (l : List Name). Contains l n) names_push is.1)) [
              | inl was ↦ inl (inr (is.0, was))
              | inr same ↦ inr (is.0, sym same)
            ]

    pub adds : (all : List Row) → all ≡ rows ++ row_of objects front e ∷ [] → Expands objects tree rows at names seen → length all ≤ MAX_ROWS + 1 → Expands objects tree all at names (seen ++ e ∷ [])
    adds all is has few =
        let next = add_met has.1.0 has.1.1 has.1.2 has.1.3 in
        subst (λ (rs : List Row). Expands objects tree rs at names (seen ++ e ∷ [])) (sym is)
        (subst (λ (rs : List Row). length rs ≤ MAX_ROWS + 1) is few, (next.0, has.1.1, next.1, next.2))

    pub adds_too_many : (all : List Row) → all ≡ rows ++ row_of objects front e ∷ [] → Expands objects tree rows at names seen → MAX_ROWS + 1 < length all → HasTooManyRows objects tree
    adds_too_many all is has many =
        let next = add_met has.1.0 has.1.1 has.1.2 has.1.3 in
        met_too_many _ (rows ++ row_of objects front e ∷ []) next.0 next.2.met (subst (λ (rs : List Row). MAX_ROWS + 1 < length rs) is many)

  -- all entries of the directory were added
  pub expanded : (rows : List Row) (at : ℕ) (names : List Name) → Expands objects tree rows at names (entries_in (object_at objects (tree_at objects tree names))) → Goes objects tree rows (at + 1)
  expanded rows at names has = by_parts has.1.0 has.1.1 has.1.2 has.1.3
    where
      by_parts : (paths : List Path) (before after : List (List Name)) → HasMetIn objects tree rows at names (entries_in (object_at objects (tree_at objects tree names))) paths before after → Goes objects tree rows (at + 1)
      by_parts paths before after is = (
        has.0,
        (
          paths,
          before ++ names ∷ [],
          after,
          record {
            parts = is.parts ∙ sym (append_assoc before (names ∷ []) after);
            count = length-append before (names ∷ []) ∙ ap (λ (n : ℕ). n + 1) is.count;
            met = met_alike (IsInOr objects tree before names (entries_in (object_at objects (tree_at objects tree names)))) (IsIn objects tree (before ++ names ∷ [])) rows paths forth back is.met;
          },
        ),
      )
        where
          forth : (ns : List Name) (n : Name) → IsInOr objects tree before names (entries_in (object_at objects (tree_at objects tree names))) ns n → Contains (before ++ names ∷ []) ns
          forth ns n (inl was) = Contains-append_left before (names ∷ []) ns was
          forth ns n (inr was) = subst (λ (l : List Name). Contains (before ++ names ∷ []) l) (sym was.0) (Contains-push before names)

          back : (ns : List Name) (n : Name) → Contains (before ++ names ∷ []) ns → ¬ (row_at objects tree (ns ++ n ∷ []) ≡ None) → IsInOr objects tree before names (entries_in (object_at objects (tree_at objects tree names))) ns n
          back ns n c some = by_place (Contains-push_cases before names ns c)
            where
              by_place : Contains before ns ⊎ (names ≡ ns) → IsInOr objects tree before names (entries_in (object_at objects (tree_at objects tree names))) ns n
              by_place (inl was) = inl was
              by_place (inr same) =
                  inr (
                    sym same,
                    is_seen (entries_in (object_at objects (tree_at objects tree names))) n
                        (λ none. some (ap (λ (l : List Name). row_at objects tree (l ++ n ∷ [])) (sym same) ∙ row_at-push objects tree names n ∙ none)),
                  )

  -- nothing is below it
  pub expanded_none : (rows : List Row) (at : ℕ) (names : List Name) → entries_in (object_at objects (tree_at objects tree names)) ≡ [] → Expands objects tree rows at names [] → Goes objects tree rows (at + 1)
  expanded_none rows at names none has = expanded rows at names (subst (λ (es : List Entry). Expands objects tree rows at names es) (sym none) has)

  -- ---- all was looked through

  pub walked : (rows : List Row) (at : ℕ) → length rows ≤ at → Goes objects tree rows at → IsWalked objects tree rows
  walked rows at ended goes = by_parts goes.1.0 goes.1.1 goes.1.2 goes.1.3
    where
      by_parts : (paths : List Path) (before after : List (List Name)) → HasMet objects tree rows at paths before after → IsWalked objects tree rows
      by_parts paths before (left ∷ after) has =
          absurd (omega (arith, ended, has.count, zip_length (IsRow objects tree) (places paths) rows has.met.each, ap length has.parts, length-append before (left ∷ after)))
      by_parts paths before [] has = (few, (paths, record { each = has.met.each; all = all_paths }))
        where
          next_met : (ns : List Name) (n : Name) → Contains (places paths) ns → ¬ (row_at objects tree (ns ++ n ∷ []) ≡ None) → Contains (map pieces paths) (ns ++ n ∷ [])
          next_met ns n c some = has.met.all ns n (subst (λ (l : List (List Name)). Contains l ns) (has.parts ∙ append-nil before) c) some

          all_met : (more ns : List Name) (next : Name) → Contains (places paths) ns → ¬ (row_at objects tree (ns ++ next ∷ more) ≡ None) → Contains (map pieces paths) (ns ++ next ∷ more)
          all_met [] ns next c some = next_met ns next c some
          all_met (second ∷ more) ns next c some =
              let join : (ns ++ next ∷ []) ++ second ∷ more ≡ ns ++ next ∷ second ∷ more = append_assoc ns (next ∷ []) (second ∷ more) in
              let below : ¬ (row_at objects tree ((ns ++ next ∷ []) ++ second ∷ more) ≡ None) = λ none. some (ap (row_at objects tree) (sym join) ∙ none) in
              let here = next_met ns next c (λ none. below (none_below objects tree ns next second more none)) in
              subst (λ (l : List Name). Contains (map pieces paths) l) join (all_met more (ns ++ next ∷ []) second (contains_there [] (map pieces paths) (ns ++ next ∷ []) here) below)

          all_paths : (path : Path) → HasRow objects tree path → Contains paths path
          all_paths path some =
              let parts = some_piece path in
              let found = all_met parts.1 [] parts.0 (contains_here [] (map pieces paths)) (λ none. some (ap (row_at objects tree) parts.2 ∙ none)) in
              let of = map_contains pieces paths (parts.0 ∷ parts.1) found in
              subst (λ (p : Path). Contains paths p) (same_pieces of.0 path (of.2 ∙ sym parts.2)) of.1

          few : ¬ HasTooManyRows objects tree
          few many =
              let fits = fewer many.0 paths many.1 (λ p c. all_paths p (All-contains (HasRow objects tree) many.0 p many.2 c)) in
              omega (arith, many.3, fits, goes.0, zip_length (IsRow objects tree) (places paths) rows has.met.each, length-map paths pieces)

  -- ---- the next row is looked through

  -- it is no directory
  pub beside : (rows : List Row) (at : ℕ) (d : Row) → at < length rows → ((folder : Folder) → get_or rows at d ≡ Directory folder → ⊥) → Goes objects tree rows at → Goes objects tree rows (at + 1)
  beside rows at d below other goes =
      let next = next_place rows at below goes d in
      expanded_none rows at next.0 (ap (λ (t : Option ObjectId). entries_in (object_at objects t)) (by_row next.0 (get_or rows at d) refl next.1)) next.2
    where
      by_row : (names : List Name) (r : Row) → get_or rows at d ≡ r → IsRow objects tree names r → tree_at objects tree names ≡ None
      by_row names (Directory folder) is right = absurd (other folder is)
      by_row names (File found) is right = right.0
      by_row names Other is right = right.0

  -- it is a directory, at some place
  pub in_folder : (rows : List Row) (at : ℕ) (d : Row) (folder : Folder) → at < length rows → get_or rows at d ≡ Directory folder → Goes objects tree rows at
      → (names : List Name) × (folder.tree ≡ tree_at objects tree names) × IsFront names folder.front × Expands objects tree rows at names []
  in_folder rows at d folder below is goes =
      let next = next_place rows at below goes d in
      let right : IsRow objects tree next.0 (Directory folder) = subst (λ (r : Row). IsRow objects tree next.0 r) is next.1 in
      (next.0, right.0, right.1, next.2)

  -- a directory without a tree
  pub lacking : (rows : List Row) (at : ℕ) (d : Row) (folder : Folder) → at < length rows → get_or rows at d ≡ Directory folder → folder.tree ≡ None → Goes objects tree rows at → Goes objects tree rows (at + 1)
  lacking rows at d folder below is none goes =
      let there = in_folder rows at d folder below is goes in
      expanded_none rows at there.0 (ap (λ (t : Option ObjectId). entries_in (object_at objects t)) (sym there.1 ∙ none)) there.3

-- what an answer says where it is no error
pub weaker : {X E : Type 0} (r : Result X E) (P Q : X → Type 0) (S : E → Type 0) → ((x : X) → P x → Q x) → MatchResult r P S → MatchResult r Q S
weaker (Ok x) P Q S more is = more x is
weaker (Err e) P Q S more is = is

-- the error that is passed on
pub passed_on : {X : Type 0} (r : Result X Stop) (e : Stop) (P : X → Type 0) (S : Stop → Type 0) → IsErrAnd r (λ x. x ≡ e) → S e → MatchResult r P S
passed_on (Ok x) e P S is stops = absurd is
passed_on (Err x) e P S is stops = subst S (sym is) stops

-- ---- entries, one after another

find_first : (front rest : List Entry) (e : Entry) → entry_named front e.name ≡ None → entry_named (front ++ e ∷ rest) e.name ≡ Some e
find_first [] rest e none = ap (λ (b : Bool). cond b (Some e) (entry_named rest e.name)) (nat_list_eq_equiv.refl e.name)
find_first (f ∷ front) rest e none = by_test (find_first front rest e) (bytes_eq f.name e.name) refl none
  where
    by_test : (entry_named front e.name ≡ None → entry_named (front ++ e ∷ rest) e.name ≡ Some e) → (b : Bool) → bytes_eq f.name e.name ≡ b → cond b (Some f) (entry_named front e.name) ≡ None → cond b (Some f) (entry_named (front ++ e ∷ rest) e.name) ≡ Some e
    by_test more true is none = absurd cc
    by_test more false is none = more none

pub map_push : (list : List TreeEntry) (i : ℕ) (d : TreeEntry) → i < length list → map entry_of (take (i + 1) list) ≡ map entry_of (take i list) ++ entry_of (get_or list i d) ∷ []
map_push list i d below = ap (map entry_of) (take_more list i d below) ∙ map-append entry_of (take i list) (get_or list i d ∷ [])

-- the next entry of a tree has a name of its own, and is found by it
pub next_entry : (objects : List Content) (id : Option ObjectId) (list : List TreeEntry) (i : ℕ) (d : TreeEntry) → i < length list → AreEntries (object_at objects id) list
    → (entry_named (map entry_of (take i list)) (entry_of (get_or list i d)).name ≡ None) × (entry_at objects id (entry_of (get_or list i d)).name ≡ Some (entry_of (get_or list i d)))
next_entry objects id list i d below are =
    let e : Entry = entry_of (get_or list i d) in
    let front : List Entry = map entry_of (take i list) in
    let rest : List Entry = map entry_of (drop (i + 1) list) in
    let cut : take i list ++ get_or list i d ∷ drop (i + 1) list ≡ list = ap (λ (l : List TreeEntry). take i list ++ l) (sym (drop_more list i d below)) ∙ take-append-drop i list in
    let is : entries_in (object_at objects id) ≡ front ++ e ∷ rest = sym are.same ∙ ap (map entry_of) (sym cut) ∙ map-append entry_of (take i list) (get_or list i d ∷ drop (i + 1) list) in
    let none : entry_named front e.name ≡ None = are.once front e rest is in
    (none, ap (λ (es : List Entry). entry_named es e.name) is ∙ find_first front rest e none)
