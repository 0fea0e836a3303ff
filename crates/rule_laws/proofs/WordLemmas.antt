-- The words of lines, as the definition of rules reads them and in the words of the conf.
use Rattle.std.proofs.Common.{◌≡◌, ℕ, Bool, true, false, cond, not, List, [], ◌∷◌, ◌++◌, map, length, take, Contains, arith, ne_eqb, Option, Some, None, inl, inr, refl, sym, ap, ◌∙◌, subst}
use Rattle.std.specs.Prelude.{◌&&◌, ◌||◌, codes}
use Rattle.std.specs.List.{flat_map}
use Rattle.std.specs.Str.{bytes_eq}
use Rattle.std.specs.Cmp.Lexicographic.{nat_list_eq_equiv, same_text}
use Rattle.std.proofs.lemmas.Bool.{and_from, and_parts, not-true, not_from_false, or_cases, or_left, or_right}
use Rattle.std.proofs.lemmas.List.Elements.{Contains-append_cases, Contains-append_left, Contains-append_right}
use Rattle.conf_lex.specs.Names.{is_repo_name, occurs}
use Rattle.conf_lex.specs.RepoWords.{repo_word}
use Rattle.conf_groups.specs.Laws.{IsMember}
use Rattle.conf_groups.specs.declared.placed.Placed.{Placed}
use Rattle.conf_groups.specs.declared.placed.Scope.{Scope}
use Rattle.conf_groups.specs.declared.placed.Scope.TheVariants.{Main, Sub}
use Rattle.conf_groups.proofs.MemberLemmas.{members_are_those}
use Rattle.rule_compile.specs.Patterns.{AreTrue, Patterns}
use Rattle.rule_compile.specs.Words.{expanded, is_all, is_group, is_nothing, is_plain_pattern, is_repo_group, lets, may_set, members_at, members_of, refex_texts, refexes_in, repo_of, some_lets, unknown_at, user_of, users_of, with_prefix}
use Rattle.rule_compile.specs.declared.rule.RepoWord.{RepoWord}
use Rattle.rule_compile.specs.declared.rule.RepoWord.TheVariants as repo
use Rattle.rule_compile.specs.declared.rule.UserWord.{UserWord}
use Rattle.rule_laws.specs.Conf.{HasRefex, HasUser, HasWord, IsInside, IsMeant, IsOwn, MaySet, StandsFor}
use Rattle.rule_laws.proofs.ListLemmas.{Words, first_or_rest, flat_map_has, held_there, here, in_flat_map, in_map, in_none, map_has, only, take_whole, there, there_held}

-- a line with refexes is for them alone
texts_are : (t : List ℕ) (ts : Words) → refex_texts (t ∷ ts) ≡ map with_prefix (t ∷ ts)
texts_are t ts =
    ap (λ (b : Bool). cond b (codes "refs/.*" ∷ []) (map with_prefix (t ∷ ts))) (ne_eqb (length (t ∷ ts)) 0 (λ e. let none : length (t ∷ ts) ≡ 0 = e in omega (arith, none)))

-- ---- members of groups

module _ (placed lines : List Placed) (place : ℕ) (are : take place placed ≡ lines) where
  is_member : (scope : Scope) (group word : List ℕ) → Contains (members_at placed place scope group) word → IsMember word lines group scope
  is_member scope group word c =
      subst (λ (ls : List Placed). IsMember word ls group scope) are
      (members_are_those.by_the_rule (take place placed) group scope word (there_held (members_at placed place scope group) word c))

  members_have : (scope : Scope) (group word : List ℕ) → IsMember word lines group scope → Contains (members_at placed place scope group) word
  members_have scope group word m =
      held_there (members_at placed place scope group) word
      (members_are_those.all_of_them (take place placed) group scope word (subst (λ (ls : List Placed). IsMember word ls group scope) (sym are) m))

  stands_for : (b : Bool) (scope : Scope) (word text : List ℕ) → Contains (cond b (members_at placed place scope word) (word ∷ [])) text → StandsFor b lines scope word text
  stands_for true scope word text c = is_member scope word text c
  stands_for false scope word text c = sym (only word text c)

  standing : (b : Bool) (scope : Scope) (word text : List ℕ) → StandsFor b lines scope word text → Contains (cond b (members_at placed place scope word) (word ∷ [])) text
  standing true scope word text h = members_have scope word text h
  standing false scope word text h = subst (λ (t : List ℕ). Contains (word ∷ []) t) (sym h) (here word [])

  -- ---- refexes

  module _ (scope : Scope) where
    refex_first : (b : Bool) (w : List ℕ) (ws more : Words) (text : List ℕ) → is_group w ≡ b → (Contains more text → IsMeant is_group lines scope ws text)
        → Contains (cond b (members_at placed place scope w ++ more) (w ∷ more)) text → IsMeant is_group lines scope (w ∷ ws) text
    refex_first true w ws more text e on c =
        elim (Contains-append_cases (members_at placed place scope w) more text c) [
          | inl first ↦ (w, here w ws, subst (λ (b : Bool). StandsFor b lines scope w text) (sym e) (is_member scope w text first))
          | inr rest ↦ let found = on rest in (found.0, there w ws found.0 found.1, found.2)
        ]
    refex_first false w ws more text e on c =
        elim (first_or_rest w more text c) [
          | inl same ↦ (w, here w ws, subst (λ (b : Bool). StandsFor b lines scope w text) (sym e) (sym same))
          | inr rest ↦ let found = on rest in (found.0, there w ws found.0 found.1, found.2)
        ]

    in_refexes : (ws : Words) (text : List ℕ) → Contains (refexes_in placed place scope ws) text → IsMeant is_group lines scope ws text
    in_refexes [] text c = absurd (in_none text c)
    in_refexes (w ∷ ws) text c = refex_first (is_group w) w ws (refexes_in placed place scope ws) text refl (in_refexes ws text) c

    first_has : (b : Bool) (w : List ℕ) (more : Words) (text : List ℕ) → StandsFor b lines scope w text → Contains (cond b (members_at placed place scope w ++ more) (w ∷ more)) text
    first_has true w more text h = Contains-append_left (members_at placed place scope w) more text (members_have scope w text h)
    first_has false w more text h = subst (λ (t : List ℕ). Contains (w ∷ more) t) (sym h) (here w more)

    rest_has : (b : Bool) (w : List ℕ) (more : Words) (text : List ℕ) → Contains more text → Contains (cond b (members_at placed place scope w ++ more) (w ∷ more)) text
    rest_has true w more text c = Contains-append_right (members_at placed place scope w) more text c
    rest_has false w more text c = there w more text c

    refexes_have : (ws : Words) (text : List ℕ) → IsMeant is_group lines scope ws text → Contains (refexes_in placed place scope ws) text
    refexes_have [] text m = absurd (in_none m.0 m.1)
    refexes_have (w ∷ ws) text m =
        elim (first_or_rest w ws m.0 m.1) [
          | inl same ↦ first_has (is_group w) w (refexes_in placed place scope ws) text (subst (λ (x : List ℕ). StandsFor (is_group x) lines scope x text) (sym same) m.2)
          | inr rest ↦ rest_has (is_group w) w (refexes_in placed place scope ws) text (refexes_have ws text (m.0, rest, m.2))
        ]

    -- words without an unknown group come to a text
    some_member : (ms : Words) → is_nothing ms ≡ false → (x : List ℕ) × (xs : Words) × (ms ≡ x ∷ xs)
    some_member [] h = absurd (let bad : true ≡ false = h in cc)
    some_member (x ∷ xs) h = (x, xs, refl)

    none_if : (b : Bool) (w : List ℕ) (o : Option (List ℕ)) → cond b (Some w) o ≡ None → b ≡ false
    none_if true w o h = absurd (let bad : Some w ≡ None = h in cc)
    none_if false w o h = refl

    some_first : (b : Bool) (w : List ℕ) (more : Words) (o : Option (List ℕ)) → cond (b && is_nothing (members_at placed place scope w)) (Some w) o ≡ None
        → (x : List ℕ) × (xs : Words) × (cond b (members_at placed place scope w ++ more) (w ∷ more) ≡ x ∷ xs)
    some_first true w more o h =
        let some = some_member (members_at placed place scope w) (none_if (is_nothing (members_at placed place scope w)) w o h) in
        (some.0, some.1 ++ more, ap (λ (ms : Words). ms ++ more) some.2)
    some_first false w more o h = (w, more, refl)

    pub has_refex : (refexes : Words) (refex : List ℕ) → unknown_at placed place scope refexes ≡ None → Contains (refex_texts (refexes_in placed place scope refexes)) refex
        → HasRefex lines scope refexes refex
    has_refex [] refex known c = sym (only (codes "refs/.*") refex c)
    has_refex (w ∷ ws) refex known c =
        let some = some_first (is_group w) w (refexes_in placed place scope ws) (unknown_at placed place scope ws) known in
        let prefixed = subst (λ (ts : Words). Contains ts refex) (texts_are some.0 some.1) (subst (λ (ts : Words). Contains (refex_texts ts) refex) some.2 c) in
        let found = in_map with_prefix (some.0 ∷ some.1) refex prefixed in
        (found.0, in_refexes (w ∷ ws) found.0 (subst (λ (ts : Words). Contains ts found.0) (sym some.2) found.1), sym found.2)

    texts_have : (ts : Words) (text : List ℕ) → Contains ts text → Contains (refex_texts ts) (with_prefix text)
    texts_have [] text c = absurd (in_none text c)
    texts_have (t ∷ ts) text c = subst (λ (us : Words). Contains us (with_prefix text)) (sym (texts_are t ts)) (map_has with_prefix (t ∷ ts) text c)

    pub refex_had : (refexes : Words) (refex : List ℕ) → HasRefex lines scope refexes refex → Contains (refex_texts (refexes_in placed place scope refexes)) refex
    refex_had [] refex h = subst (λ (r : List ℕ). Contains (codes "refs/.*" ∷ []) r) (sym h) (here (codes "refs/.*") [])
    refex_had (w ∷ ws) refex h =
        subst (λ (r : List ℕ). Contains (refex_texts (refexes_in placed place scope (w ∷ ws))) r) (sym h.2)
        (texts_have (refexes_in placed place scope (w ∷ ws)) h.0 (refexes_have (w ∷ ws) h.0 h.1))

-- ---- users

pub has_user : (placed : List Placed) (scope : Scope) (words : Words) (user : UserWord) → Contains (users_of placed scope words) user → HasUser placed scope words user
has_user placed scope words user c = let found = in_map (user_of placed scope) words user c in (found.0, found.1, sym found.2)

pub user_had : (placed : List Placed) (scope : Scope) (words : Words) (user : UserWord) → HasUser placed scope words user → Contains (users_of placed scope words) user
user_had placed scope words user h =
    subst (λ (u : UserWord). Contains (users_of placed scope words) u) (sym h.2) (map_has (user_of placed scope) words h.0 h.1)

-- ---- repository words

-- the texts that the words of a line stand for
module _ (placed : List Placed) (scope : Scope) (words : Words) (text : List ℕ) where
  pub in_texts : Contains (flat_map (expanded placed scope) words) text → IsMeant is_repo_group placed scope words text
  in_texts c =
      let from = in_flat_map (expanded placed scope) words text c in
      (from.0, from.1, stands_for placed placed _ (take_whole placed) (is_repo_group from.0) scope from.0 text from.2)

  pub texts_meant : IsMeant is_repo_group placed scope words text → Contains (flat_map (expanded placed scope) words) text
  texts_meant m = flat_map_has (expanded placed scope) words m.0 text m.1 (standing placed placed _ (take_whole placed) (is_repo_group m.0) scope m.0 text m.2)

-- the words of a list that are kept
abbrev pub kept : Patterns → List Placed → Scope → List (List ℕ) → List RepoWord
kept ps placed scope [] = []
kept ps placed scope (t ∷ ts) = cond (may_set ps placed scope t) (repo_of t ∷ kept ps placed scope ts) (kept ps placed scope ts)

-- those of a `repo` line
abbrev pub words_for : Patterns → List Placed → Scope → List (List ℕ) → List RepoWord
words_for ps placed scope words = kept ps placed scope (flat_map (expanded placed scope) words)

module _ (ps : Patterns) (placed : List Placed) where
  kept_first : (b : Bool) (t : List ℕ) (ts : Words) (more : List RepoWord) (w : RepoWord) (scope : Scope) → may_set ps placed scope t ≡ b
      → (Contains more w → (u : List ℕ) × Contains ts u × (may_set ps placed scope u ≡ true) × (w ≡ repo_of u))
      → Contains (cond b (repo_of t ∷ more) more) w → (u : List ℕ) × Contains (t ∷ ts) u × (may_set ps placed scope u ≡ true) × (w ≡ repo_of u)
  kept_first true t ts more w scope e on c =
      elim (first_or_rest (repo_of t) more w c) [
        | inl same ↦ (t, here t ts, e, sym same)
        | inr rest ↦ let found = on rest in (found.0, there t ts found.0 found.1, found.2, found.3)
      ]
  kept_first false t ts more w scope e on c = let found = on c in (found.0, there t ts found.0 found.1, found.2, found.3)

  in_kept : (scope : Scope) (ts : Words) (w : RepoWord) → Contains (kept ps placed scope ts) w → (t : List ℕ) × Contains ts t × (may_set ps placed scope t ≡ true) × (w ≡ repo_of t)
  in_kept scope [] w c = absurd (in_none w c)
  in_kept scope (t ∷ ts) w c = kept_first (may_set ps placed scope t) t ts (kept ps placed scope ts) w scope refl (in_kept scope ts w) c

  more_kept : (b : Bool) (t : List ℕ) (more : List RepoWord) (w : RepoWord) → Contains more w → Contains (cond b (repo_of t ∷ more) more) w
  more_kept true t more w c = there (repo_of t) more w c
  more_kept false t more w c = c

  kept_has : (scope : Scope) (ts : Words) (t : List ℕ) → Contains ts t → may_set ps placed scope t ≡ true → Contains (kept ps placed scope ts) (repo_of t)
  kept_has scope [] t c may = absurd (in_none t c)
  kept_has scope (u ∷ ts) t c may =
      elim (first_or_rest u ts t c) [
        | inl same ↦
            subst (λ (b : Bool). Contains (cond b (repo_of u ∷ kept ps placed scope ts) (kept ps placed scope ts)) (repo_of t)) (sym (ap (may_set ps placed scope) same ∙ may))
            (subst (λ (x : List ℕ). Contains (repo_of u ∷ kept ps placed scope ts) (repo_of x)) same (here (repo_of u) (kept ps placed scope ts)))
        | inr rest ↦ more_kept (may_set ps placed scope u) u (kept ps placed scope ts) (repo_of t) (kept_has scope ts t rest may)
      ]

  pub kept_append : (scope : Scope) (ts us : Words) → kept ps placed scope (ts ++ us) ≡ kept ps placed scope ts ++ kept ps placed scope us
  kept_append scope [] us = refl
  kept_append scope (t ∷ ts) us = ap (λ (ws : List RepoWord). cond (may_set ps placed scope t) (repo_of t ∷ ws) ws) (kept_append scope ts us) ∙ joined (may_set ps placed scope t)
    where
      joined : (b : Bool) → cond b (repo_of t ∷ (kept ps placed scope ts ++ kept ps placed scope us)) (kept ps placed scope ts ++ kept ps placed scope us)
          ≡ cond b (repo_of t ∷ kept ps placed scope ts) (kept ps placed scope ts) ++ kept ps placed scope us
      joined true = refl
      joined false = refl

  some_let : (word : List ℕ) (ms : Words) → some_lets ps word ms ≡ true → (m : List ℕ) × Contains ms m × (lets ps word (repo_word m) ≡ true)
  some_let word [] h = absurd (let bad : false ≡ true = h in cc)
  some_let word (m ∷ ms) h =
      elim (or_cases (lets ps word (repo_word m)) (some_lets ps word ms) h) [
        | inl this ↦ (m, here m ms, this)
        | inr rest ↦ let found = some_let word ms rest in (found.0, there m ms found.0 found.1, found.2)
      ]

  lets_some : (word : List ℕ) (ms : Words) (m : List ℕ) → Contains ms m → lets ps word (repo_word m) ≡ true → some_lets ps word ms ≡ true
  lets_some word [] m c h = absurd (in_none m c)
  lets_some word (x ∷ ms) m c h =
      elim (first_or_rest x ms m c) [
        | inl same ↦ or_left (lets ps word (repo_word x)) (some_lets ps word ms) (ap (λ (y : List ℕ). lets ps word (repo_word y)) same ∙ h)
        | inr rest ↦ or_right (lets ps word (repo_word x)) (some_lets ps word ms) (lets_some word ms m rest h)
      ]

  bytes_same : (x y : List ℕ) → x ≡ y → bytes_eq x y ≡ true
  bytes_same x y e = subst (λ (z : List ℕ). bytes_eq x z ≡ true) e (nat_list_eq_equiv.refl x)

  module _ (ok : AreTrue ps) where
    module _ (subconf text : List ℕ) where
      abbrev given : Words
      given = members_of placed Main (64 ∷ subconf)

      abbrev may : Bool → Bool
      may a = not a && (bytes_eq (repo_word text) (repo_word subconf) || some_lets ps (repo_word text) given)

      abbrev named_by : Bool → RepoWord
      named_by p = cond p (repo.Plain (repo_word text)) (repo.Pattern (repo_word text))

      own_inside : (p : Bool) → IsOwn placed subconf (repo_word text) → IsInside placed subconf (named_by p)
      own_inside true own = inl own
      own_inside false own = own

      by_pattern : (p : Bool) (m : List ℕ) → Contains given m → is_repo_name (repo_word text) ≡ p
          → (is_repo_name (repo_word text) && (is_plain_pattern (repo_word m) && ps.takes (repo_word m) [] (repo_word text))) ≡ true → IsInside placed subconf (named_by p)
      by_pattern true m c e h =
          let parts = and_parts (is_repo_name (repo_word text)) (is_plain_pattern (repo_word m) && ps.takes (repo_word m) [] (repo_word text)) h in
          let takes = and_parts (is_plain_pattern (repo_word m)) (ps.takes (repo_word m) [] (repo_word text)) parts.1 in
          let plain = and_parts (not (is_repo_name (repo_word m))) (not (occurs (codes "CREATOR") (repo_word m))) takes.0 in
          inr (
            m,
            is_member placed placed _ (take_whole placed) Main (64 ∷ subconf) m c,
            not-true (is_repo_name (repo_word m)) plain.0,
            not-true (occurs (codes "CREATOR") (repo_word m)) plain.1,
            (ok.whole (repo_word m) [] (repo_word text)).0 takes.1,
          )
      by_pattern false m c e h =
          let parts = and_parts (is_repo_name (repo_word text)) (is_plain_pattern (repo_word m) && ps.takes (repo_word m) [] (repo_word text)) h in
          absurd (let bad : false ≡ true = sym e ∙ parts.0 in cc)

      by_member : (p : Bool) (m : List ℕ) → Contains given m → is_repo_name (repo_word text) ≡ p → lets ps (repo_word text) (repo_word m) ≡ true → IsInside placed subconf (named_by p)
      by_member p m c e h =
          elim (or_cases (bytes_eq (repo_word text) (repo_word m)) (is_repo_name (repo_word text) && (is_plain_pattern (repo_word m) && ps.takes (repo_word m) [] (repo_word text))) h) [
            | inl same ↦
                own_inside p (inr (m, is_member placed placed _ (take_whole placed) Main (64 ∷ subconf) m c, same_text (repo_word text) (repo_word m) (sym same)))
            | inr by ↦ by_pattern p m c e by
          ]

      inside : (a p : Bool) → is_repo_name (repo_word text) ≡ p → may a ≡ true → IsInside placed subconf (cond a repo.All (named_by p))
      inside true p e h = absurd (let bad : false ≡ true = h in cc)
      inside false p e h =
          elim (or_cases (bytes_eq (repo_word text) (repo_word subconf)) (some_lets ps (repo_word text) given) h) [
            | inl same ↦ own_inside p (inl (same_text (repo_word text) (repo_word subconf) (sym same)))
            | inr some ↦ let found = some_let (repo_word text) given some in by_member p found.0 found.1 e found.2
          ]

      own_may : IsOwn placed subconf (repo_word text) → may false ≡ true
      own_may (inl same) = or_left (bytes_eq (repo_word text) (repo_word subconf)) (some_lets ps (repo_word text) given) (bytes_same (repo_word text) (repo_word subconf) same)
      own_may (inr (m, member, same)) =
          or_right (bytes_eq (repo_word text) (repo_word subconf)) (some_lets ps (repo_word text) given)
          (lets_some (repo_word text) given m (members_have placed placed _ (take_whole placed) Main (64 ∷ subconf) m member)
          (or_left (bytes_eq (repo_word text) (repo_word m)) _ (bytes_same (repo_word text) (repo_word m) same)))

      inside_may : (a p : Bool) → is_repo_name (repo_word text) ≡ p → IsInside placed subconf (cond a repo.All (named_by p)) → may a ≡ true
      inside_may true p e h = absurd h
      inside_may false false e h = own_may h
      inside_may false true e (inl own) = own_may own
      inside_may false true e (inr (m, member, no_name, no_creator, takes)) =
          or_right (bytes_eq (repo_word text) (repo_word subconf)) (some_lets ps (repo_word text) given)
          (lets_some (repo_word text) given m (members_have placed placed _ (take_whole placed) Main (64 ∷ subconf) m member)
          (or_right (bytes_eq (repo_word text) (repo_word m)) _
          (and_from (is_repo_name (repo_word text)) _ e
          (and_from (is_plain_pattern (repo_word m)) (ps.takes (repo_word m) [] (repo_word text))
          (and_from (not (is_repo_name (repo_word m))) (not (occurs (codes "CREATOR") (repo_word m))) (not_from_false (is_repo_name (repo_word m)) no_name) (not_from_false (occurs (codes "CREATOR") (repo_word m)) no_creator))
          ((ok.whole (repo_word m) [] (repo_word text)).1 takes)))))

    pub may_is : (scope : Scope) (text : List ℕ) → may_set ps placed scope text ≡ true → MaySet placed scope (repo_of text)
    may_is Main text h = tt
    may_is (Sub s) text h = inside s text (is_all text) (is_repo_name (repo_word text)) refl h

    pub is_may : (scope : Scope) (text : List ℕ) → MaySet placed scope (repo_of text) → may_set ps placed scope text ≡ true
    is_may Main text h = refl
    is_may (Sub s) text h = inside_may s text (is_all text) (is_repo_name (repo_word text)) refl h

    pub has_word : (scope : Scope) (words : Words) (w : RepoWord) → Contains (words_for ps placed scope words) w → HasWord placed scope words w
    has_word scope words w c =
        let found = in_kept scope (flat_map (expanded placed scope) words) w c in
        (found.0, in_texts placed scope words found.0 found.1, found.3, subst (λ (x : RepoWord). MaySet placed scope x) (sym found.3) (may_is scope found.0 found.2))

    pub word_had : (scope : Scope) (words : Words) (w : RepoWord) → HasWord placed scope words w → Contains (words_for ps placed scope words) w
    word_had scope words w h =
        subst (λ (x : RepoWord). Contains (words_for ps placed scope words) x) (sym h.2)
        (kept_has scope (flat_map (expanded placed scope) words) h.0 (texts_meant placed scope words h.0 h.1)
        (is_may scope h.0 (subst (λ (x : RepoWord). MaySet placed scope x) h.2 h.3)))
