-- Rules are of lines, and lines give rules.
use Rattle.std.proofs.Common.{◌≡◌, ◌++◌, ◌+◌, ℕ, List, [], ◌∷◌, take, length, Contains, Some, inl, inr, refl, sym, ap, ◌∙◌, subst}
use Rattle.std.proofs.lemmas.List.Elements.{Contains-append_cases, Contains-append_left, Contains-append_right}
use Rattle.conf_lex.specs.declared.perm.Perm.{Perm}
use Rattle.conf_lex.specs.declared.statement.Statement.TheVariants as statement
use Rattle.conf_groups.specs.declared.placed.Placed.{Placed}
use Rattle.conf_groups.specs.declared.placed.Placed.TheVariants as at
use Rattle.conf_groups.specs.declared.placed.PlacedLine.{PlacedLine}
use Rattle.rule_compile.specs.Patterns.{AreTrue, Patterns}
use Rattle.rule_compile.specs.Words.{refex_texts, refexes_in, users_of}
use Rattle.rule_compile.specs.Flat.{Draft, State, for_refexes, for_users, for_words, rule_of}
use Rattle.rule_compile.specs.declared.rule.RepoWord.{RepoWord}
use Rattle.rule_compile.specs.declared.rule.Rule.{Rule}
use Rattle.rule_compile.specs.declared.rule.UserWord.{UserWord}
use Rattle.rule_laws.specs.Conf.{HasRefex, HasUser, IsBehind, IsOfLine}
use Rattle.rule_laws.proofs.ListLemmas.{cut, cut_stays, first_or_rest, flat_map_has, here, in_flat_map, in_map, in_none, map_has, nothing_at, take_front, there}
use Rattle.rule_laws.proofs.WordLemmas.{has_refex, has_user, has_word, refex_had, user_had, word_had}
use Rattle.rule_laws.proofs.StepLemmas.{Gives, drafted}
use Rattle.rule_laws.proofs.BlockLemmas.{BlockIs, same_line, words_in}

-- ---- drafts

abbrev draft_of : RepoWord → List ℕ → UserWord → Draft
draft_of word refex user = record { repo = word; refex = refex; user = user }

in_drafts : (words : List RepoWord) (refexes : List (List ℕ)) (users : List UserWord) (d : Draft) → Contains (for_words words refexes users) d
    → Contains words d.repo × Contains refexes d.refex × Contains users d.user
in_drafts words refexes users d c =
    let w = in_flat_map (λ (word : RepoWord). for_refexes word refexes users) words d c in
    let r = in_flat_map (λ (refex : List ℕ). for_users w.0 refex users) refexes d w.2 in
    let u = in_map (λ (user : UserWord). draft_of w.0 r.0 user) users d r.2 in (
      subst (λ (x : RepoWord). Contains words x) (ap (λ (e : Draft). e.repo) u.2) w.1,
      subst (λ (x : List ℕ). Contains refexes x) (ap (λ (e : Draft). e.refex) u.2) r.1,
      subst (λ (x : UserWord). Contains users x) (ap (λ (e : Draft). e.user) u.2) u.1,
    )

drafts_have : (words : List RepoWord) (refexes : List (List ℕ)) (users : List UserWord) (word : RepoWord) (refex : List ℕ) (user : UserWord)
    → Contains words word → Contains refexes refex → Contains users user → Contains (for_words words refexes users) (record { repo = word; refex = refex; user = user })
drafts_have words refexes users word refex user w r u =
    flat_map_has (λ (x : RepoWord). for_refexes x refexes users) words word _ w
    (flat_map_has (λ (x : List ℕ). for_users word x users) refexes refex _ r
    (map_has (λ (x : UserWord). draft_of word refex x) users user u))

module _ (l : PlacedLine) (perm : Perm) where
  pub in_drafted : (n : ℕ) (ds : List Draft) (r : Rule) → Contains (drafted l perm n ds) r → (d : Draft) × Contains ds d × (m : ℕ) × (rule_of l perm m d ≡ r)
  in_drafted n [] r c = absurd (in_none r c)
  in_drafted n (d ∷ ds) r c =
      elim (first_or_rest (rule_of l perm n d) (drafted l perm (n + 1) ds) r c) [
        | inl same ↦ (d, here d ds, n, same)
        | inr rest ↦ let found = in_drafted (n + 1) ds r rest in (found.0, there d ds found.0 found.1, found.2, found.3)
      ]

  drafted_have : (n : ℕ) (ds : List Draft) (d : Draft) → Contains ds d → (m : ℕ) × Contains (drafted l perm n ds) (rule_of l perm m d)
  drafted_have n [] d c = absurd (in_none d c)
  drafted_have n (e ∷ ds) d c =
      elim (first_or_rest e ds d c) [
        | inl same ↦ (n, subst (λ (x : Draft). Contains (drafted l perm n (e ∷ ds)) (rule_of l perm n x)) same (here (rule_of l perm n e) (drafted l perm (n + 1) ds)))
        | inr rest ↦ let found = drafted_have (n + 1) ds d rest in (found.0, there (rule_of l perm n e) (drafted l perm (n + 1) ds) (rule_of l perm found.0 d) found.1)
      ]

-- ---- rules

module _ (ps : Patterns) (placed : List Placed) where
  -- the rule is of a line
  abbrev pub IsOfSome : List Placed → Rule → Type 0
  IsOfSome lines r = (before : List Placed) × (line : PlacedLine) × IsBehind lines before line × IsOfLine placed before line r

  -- the rules with the rule, whatever its number
  abbrev pub HasRule : List Rule → Rule → Type 0
  HasRule rules r = (n : ℕ) × Contains rules (record r { seq = n })

  pub record RulesAre (lines : List Placed) (rules : List Rule) : Type 0 where
    pub of : (r : Rule) → Contains rules r → IsOfSome lines r
    pub all : (before : List Placed) (line : PlacedLine) (r : Rule) → IsBehind lines before line → IsOfLine placed before line r → HasRule rules r

  still_of : (lines : List Placed) (p : Placed) (r : Rule) → IsOfSome lines r → IsOfSome (lines ++ p ∷ []) r
  still_of lines p r (before, line, behind, is) = (before, line, (behind.0 ++ p ∷ [], cut_stays lines before (at.Line line) behind.0 p behind.1), is)

  pub no_rules_first : RulesAre [] []
  no_rules_first = record { of = λ r c. absurd (in_none r c); all = λ before line r behind is. absurd (nothing_at before (at.Line line) behind.0 behind.1) }

  -- a place that is no rule line
  pub rules_stay : (lines : List Placed) (p : Placed) (rules more : List Rule) → more ≡ rules
      → ((line : PlacedLine) (r : Rule) → at.Line line ≡ p → (refexes users : List (List ℕ)) → line.statement ≡ statement.Rule r.perm refexes users → ⊥)
      → RulesAre lines rules → RulesAre (lines ++ p ∷ []) more
  rules_stay lines p rules more same other h = record {
    of = λ r c. still_of lines p r (h.of r (subst (λ (rs : List Rule). Contains rs r) same c));
    all = λ before line r behind is. elim (cut lines p before (at.Line line) behind.0 behind.1) [
      | inl (at_end, last, none) ↦ absurd (other line r last is.refexes is.users is.says)
      | inr (inner, cut_at, rest) ↦
          let found = h.all before line r (inner, cut_at) is in
          (found.0, subst (λ (rs : List Rule). Contains rs (record r { seq = found.0 })) (sym same) found.1)
    ];
  }

  module _ (ok : AreTrue ps) (lines : List Placed) (l : PlacedLine) (rest : List Placed) (are : placed ≡ lines ++ at.Line l ∷ rest) where
    front : take (length lines) placed ≡ lines
    front = ap (λ (ls : List Placed). take (length lines) ls) are ∙ take_front lines (at.Line l ∷ rest)

    -- a rule line
    module _ (perm : Perm) (refexes users : List (List ℕ)) (s t : State) (says : l.statement ≡ statement.Rule perm refexes users) (block : BlockIs ps placed lines s.block)
        (does : Gives placed (length lines) l perm refexes users s t) where
      abbrev drafts : List Draft
      drafts = for_words does.words (refex_texts (refexes_in placed (length lines) l.scope refexes)) (users_of placed l.scope users)

      draft_is : (d : Draft) (n : ℕ) → Contains drafts d → IsOfLine placed lines l (rule_of l perm n d)
      draft_is d n c =
          let parts = in_drafts does.words (refex_texts (refexes_in placed (length lines) l.scope refexes)) (users_of placed l.scope users) d c in
          let b = block.some does.words does.block in
          record {
            refexes = refexes;
            users = users;
            says = says;
            block = b.0;
            repo = has_word ps placed ok b.0.opening.scope b.0.words d.repo (subst (λ (ws : List RepoWord). Contains ws d.repo) b.1 parts.0);
            refex = has_refex placed lines (length lines) front l.scope refexes d.refex does.known parts.1;
            user = has_user placed l.scope users d.user parts.2;
            scope = refl;
            place = (refl, refl);
          }

      new_of : (r : Rule) → Contains (drafted l perm (length s.flat.rules + 1) drafts) r → IsOfSome (lines ++ at.Line l ∷ []) r
      new_of r c =
          let found = in_drafted l perm (length s.flat.rules + 1) drafts r c in
          (lines, l, ([], refl), subst (λ (x : Rule). IsOfLine placed lines l x) found.3 (draft_is found.0 found.2 found.1))

      same_rule : (r : Rule) (n : ℕ) → perm ≡ r.perm → r.scope ≡ l.scope → r.file ≡ l.file → r.line ≡ l.line
          → rule_of l perm n (record { repo = r.repo; refex = r.refex; user = r.user }) ≡ record r { seq = n }
      same_rule r n p scope file number =
          λ i. record {
            seq = n;
            scope = sym scope i;
            repo = r.repo;
            perm = p i;
            refex = r.refex;
            user = r.user;
            file = sym file i;
            line = sym number i;
          }

      numbered : (r : Rule) (n : ℕ) (d : Draft) (rules : List Rule) → rule_of l perm n d ≡ record r { seq = n } → Contains rules (rule_of l perm n d) → HasRule rules r
      numbered r n d rules same c = (n, subst (λ (x : Rule). Contains rules x) same c)

      given : (r : Rule) → IsOfLine placed lines l r → HasRule (drafted l perm (length s.flat.rules + 1) drafts) r
      given r is =
          let said : statement.Rule perm refexes users ≡ statement.Rule r.perm is.refexes is.users = sym says ∙ is.says in
          let perm_is : perm ≡ r.perm = cc in
          let refexes_are : refexes ≡ is.refexes = cc in
          let users_are : users ≡ is.users = cc in
          let words_are : Some does.words ≡ Some (words_in ps placed is.block) = sym does.block ∙ block.is is.block in
          let words_same : words_in ps placed is.block ≡ does.words = cc in
          let word = subst (λ (ws : List RepoWord). Contains ws r.repo) words_same (word_had ps placed ok is.block.opening.scope is.block.words r.repo is.repo) in
          let refex = refex_had placed lines (length lines) front l.scope refexes r.refex (subst (λ (ws : List (List ℕ)). HasRefex lines l.scope ws r.refex) (sym refexes_are) is.refex) in
          let user = user_had placed l.scope users r.user (subst (λ (ws : List (List ℕ)). HasUser placed l.scope ws r.user) (sym users_are) is.user) in
          let found = drafted_have l perm (length s.flat.rules + 1) drafts (record { repo = r.repo; refex = r.refex; user = r.user })
          (drafts_have does.words (refex_texts (refexes_in placed (length lines) l.scope refexes)) (users_of placed l.scope users) r.repo r.refex r.user word refex user) in
          numbered r found.0 (draft_of r.repo r.refex r.user) (drafted l perm (length s.flat.rules + 1) drafts) (same_rule r found.0 perm_is is.scope is.place.0 is.place.1) found.1

      pub rules_come : RulesAre lines s.flat.rules → RulesAre (lines ++ at.Line l ∷ []) t.flat.rules
      rules_come h = record {
        of = λ r c. elim (Contains-append_cases s.flat.rules (drafted l perm (length s.flat.rules + 1) drafts) r (subst (λ (rs : List Rule). Contains rs r) does.rules c)) [
          | inl old ↦ still_of lines (at.Line l) r (h.of r old)
          | inr new ↦ new_of r new
        ];
        all = λ before line r behind is. elim (cut lines (at.Line l) before (at.Line line) behind.0 behind.1) [
          | inl (at_end, last, none) ↦
              let here_is : IsOfLine placed lines l r = subst (λ (m : PlacedLine). IsOfLine placed lines m r) (same_line last) (subst (λ (ls : List Placed). IsOfLine placed ls line r) at_end is) in
              let found = given r here_is in (
                found.0,
                subst (λ (rs : List Rule). Contains rs (record r { seq = found.0 })) (sym does.rules)
                    (Contains-append_right s.flat.rules (drafted l perm (length s.flat.rules + 1) drafts) (record r { seq = found.0 }) found.1),
              )
          | inr (inner, cut_at, more) ↦
              let found = h.all before line r (inner, cut_at) is in (
                found.0,
                subst (λ (rs : List Rule). Contains rs (record r { seq = found.0 })) (sym does.rules)
                    (Contains-append_left s.flat.rules (drafted l perm (length s.flat.rules + 1) drafts) (record r { seq = found.0 }) found.1),
              )
        ];
      }
