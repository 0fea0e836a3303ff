-- The plain names are those that `repo` lines have.
use Rattle.std.proofs.Common.{◌≡◌, ◌++◌, ℕ, List, [], ◌∷◌, Contains, true, inl, inr, refl, sym, ap, ◌∙◌, subst}
use Rattle.conf_lex.specs.declared.statement.Statement.TheVariants.{Repo}
use Rattle.conf_groups.specs.Groups.{with_items}
use Rattle.conf_groups.specs.Laws.{are_distinct}
use Rattle.conf_groups.specs.declared.placed.Placed.{Placed}
use Rattle.conf_groups.specs.declared.placed.Placed.TheVariants as at
use Rattle.conf_groups.specs.declared.placed.PlacedLine.{PlacedLine}
use Rattle.rule_compile.specs.Patterns.{AreTrue, Patterns}
use Rattle.rule_compile.specs.declared.rule.RepoWord.{RepoWord}
use Rattle.rule_compile.specs.declared.rule.RepoWord.TheVariants as repo
use Rattle.rule_laws.specs.Conf.{HasWord, IsBehind}
use Rattle.rule_laws.proofs.ListLemmas.{Words, cut, cut_stays, first_or_rest, here, in_items, in_none, items_distinct, items_have, items_keep, nothing_at, there}
use Rattle.rule_laws.proofs.WordLemmas.{has_word, word_had, words_for}
use Rattle.rule_laws.proofs.StepLemmas.{plains}
use Rattle.rule_laws.proofs.BlockLemmas.{same_line}

in_plains : (ws : List RepoWord) (name : List ℕ) → Contains (plains ws) name → Contains ws (repo.Plain name)
in_plains [] name c = absurd (in_none name c)
in_plains (repo.Plain n ∷ ws) name c =
    elim (first_or_rest n (plains ws) name c) [
      | inl same ↦ subst (λ (m : List ℕ). Contains (repo.Plain n ∷ ws) (repo.Plain m)) same (here (repo.Plain n) ws)
      | inr rest ↦ there (repo.Plain n) ws (repo.Plain name) (in_plains ws name rest)
    ]
in_plains (repo.Pattern text ∷ ws) name c = there (repo.Pattern text) ws (repo.Plain name) (in_plains ws name c)
in_plains (repo.All ∷ ws) name c = there repo.All ws (repo.Plain name) (in_plains ws name c)

plains_have : (ws : List RepoWord) (name : List ℕ) → Contains ws (repo.Plain name) → Contains (plains ws) name
plains_have [] name c = absurd (in_none (repo.Plain name) c)
plains_have (repo.Plain n ∷ ws) name c =
    elim (first_or_rest (repo.Plain n) ws (repo.Plain name) c) [
      | inl same ↦ let names : n ≡ name = cc in subst (λ (m : List ℕ). Contains (n ∷ plains ws) m) names (here n (plains ws))
      | inr rest ↦ there n (plains ws) name (plains_have ws name rest)
    ]
plains_have (repo.Pattern text ∷ ws) name c =
    elim (first_or_rest (repo.Pattern text) ws (repo.Plain name) c) [
      | inl same ↦ absurd (let bad : repo.Pattern text ≡ repo.Plain name = same in cc)
      | inr rest ↦ plains_have ws name rest
    ]
plains_have (repo.All ∷ ws) name c =
    elim (first_or_rest repo.All ws (repo.Plain name) c) [
      | inl same ↦ absurd (let bad : repo.All ≡ repo.Plain name = same in cc)
      | inr rest ↦ plains_have ws name rest
    ]

module _ (ps : Patterns) (placed : List Placed) where
  abbrev pub WordedIn : List Placed → RepoWord → Type 0
  WordedIn lines word = (before : List Placed) × (line : PlacedLine) × (words : List (List ℕ)) × IsBehind lines before line × (line.statement ≡ Repo words) × HasWord placed line.scope words word

  pub record PlainIs (lines : List Placed) (plain : List (List ℕ)) : Type 0 where
    pub of : (name : List ℕ) → Contains plain name → WordedIn lines (repo.Plain name)
    pub all : (name : List ℕ) → WordedIn lines (repo.Plain name) → Contains plain name
    pub once : are_distinct plain ≡ true

  still_worded : (lines : List Placed) (p : Placed) (w : RepoWord) → WordedIn lines w → WordedIn (lines ++ p ∷ []) w
  still_worded lines p w (before, line, words, behind, says, has) = (before, line, words, (behind.0 ++ p ∷ [], cut_stays lines before (at.Line line) behind.0 p behind.1), says, has)

  pub no_names_first : PlainIs [] []
  no_names_first = record { of = λ name c. absurd (in_none name c); all = λ name (before, line, words, behind, says, has). absurd (nothing_at before (at.Line line) behind.0 behind.1); once = refl }

  -- a place that is no `repo` line
  pub names_stay : (lines : List Placed) (p : Placed) (plain more : List (List ℕ)) → more ≡ plain → ((line : PlacedLine) (words : List (List ℕ)) → at.Line line ≡ p → line.statement ≡ Repo words → ⊥)
      → PlainIs lines plain → PlainIs (lines ++ p ∷ []) more
  names_stay lines p plain more same other h = record {
    of = λ name c. still_worded lines p (repo.Plain name) (h.of name (subst (λ (ns : Words). Contains ns name) same c));
    all = λ name (before, line, words, behind, says, has). elim (cut lines p before (at.Line line) behind.0 behind.1) [
      | inl (at_end, last, none) ↦ absurd (other line words last says)
      | inr (inner, cut_at, rest) ↦ subst (λ (ns : Words). Contains ns name) (sym same) (h.all name (before, line, words, (inner, cut_at), says, has))
    ];
    once = ap are_distinct same ∙ h.once;
  }

  -- a `repo` line
  pub names_come : (ok : AreTrue ps) (lines : List Placed) (l : PlacedLine) (words : List (List ℕ)) (plain more : List (List ℕ)) → l.statement ≡ Repo words
      → more ≡ with_items plain (plains (words_for ps placed l.scope words)) → PlainIs lines plain → PlainIs (lines ++ at.Line l ∷ []) more
  names_come ok lines l words plain more said same h = record {
    of = λ name c. elim (in_items plain (plains (words_for ps placed l.scope words)) name (subst (λ (ns : Words). Contains ns name) same c)) [
      | inl old ↦ still_worded lines (at.Line l) (repo.Plain name) (h.of name old)
      | inr new ↦ (lines, l, words, ([], refl), said, has_word ps placed ok l.scope words (repo.Plain name) (in_plains (words_for ps placed l.scope words) name new))
    ];
    all = λ name (before, line, its, behind, says, has). subst (λ (ns : Words). Contains ns name) (sym same) (elim (cut lines (at.Line l) before (at.Line line) behind.0 behind.1) [
      | inl (at_end, last, none) ↦
          let line_is : line ≡ l = same_line last in
          let both : Repo its ≡ Repo words = sym says ∙ ap (λ (m : PlacedLine). m.statement) line_is ∙ said in
          let words_are : its ≡ words = cc in
          let had : HasWord placed l.scope words (repo.Plain name) = subst (λ (ws : Words). HasWord placed l.scope ws (repo.Plain name)) words_are
          (subst (λ (m : PlacedLine). HasWord placed m.scope its (repo.Plain name)) line_is has) in
          items_have plain (plains (words_for ps placed l.scope words)) name
          (plains_have (words_for ps placed l.scope words) name (word_had ps placed ok l.scope words (repo.Plain name) had))
      | inr (inner, cut_at, rest) ↦ items_keep plain (plains (words_for ps placed l.scope words)) name (h.all name (before, line, its, (inner, cut_at), says, has))
    ]);
    once = ap are_distinct same ∙ items_distinct plain (plains (words_for ps placed l.scope words)) h.once;
  }
