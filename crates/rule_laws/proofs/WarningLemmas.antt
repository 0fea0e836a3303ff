-- Warnings are of the words that are dropped.
use Rattle.std.proofs.Common.{◌≡◌, ◌++◌, ℕ, Bool, true, false, cond, List, [], ◌∷◌, Contains, inl, inr, refl, sym, ap, ◌∙◌, subst}
use Rattle.std.specs.List.{flat_map}
use Rattle.std.proofs.lemmas.Bool.{false_from_ne_true}
use Rattle.std.proofs.lemmas.List.Elements.{Contains-append_cases, Contains-append_left, Contains-append_right}
use Rattle.conf_lex.specs.declared.statement.Statement.TheVariants.{Repo}
use Rattle.conf_groups.specs.declared.placed.Placed.{Placed}
use Rattle.conf_groups.specs.declared.placed.Placed.TheVariants as at
use Rattle.conf_groups.specs.declared.placed.PlacedLine.{PlacedLine}
use Rattle.rule_compile.specs.Flat.{warning_at}
use Rattle.rule_compile.specs.Patterns.{AreTrue, Patterns}
use Rattle.rule_compile.specs.Words.{expanded, is_repo_group, may_set, repo_of}
use Rattle.rule_compile.specs.declared.warning.Warning.{Warning}
use Rattle.rule_laws.specs.Conf.{IsBehind, IsMeant, MaySet}
use Rattle.rule_laws.proofs.ListLemmas.{Words, cut, cut_stays, first_or_rest, here, in_none, nothing_at, there}
use Rattle.rule_laws.proofs.WordLemmas.{in_texts, is_may, may_is, texts_meant}
use Rattle.rule_laws.proofs.StepLemmas.{warned, warnings_for}
use Rattle.rule_laws.proofs.BlockLemmas.{same_line}

module _ (ps : Patterns) (placed : List Placed) where
  module _ (l : PlacedLine) where
    warned_first : (b : Bool) (t : List ℕ) (ts : Words) (more : List Warning) (w : Warning) → may_set ps placed l.scope t ≡ b
        → (Contains more w → (u : List ℕ) × Contains ts u × (may_set ps placed l.scope u ≡ false) × (w ≡ warning_at l u))
        → Contains (cond b more (warning_at l t ∷ more)) w → (u : List ℕ) × Contains (t ∷ ts) u × (may_set ps placed l.scope u ≡ false) × (w ≡ warning_at l u)
    warned_first true t ts more w e on c = let found = on c in (found.0, there t ts found.0 found.1, found.2, found.3)
    warned_first false t ts more w e on c =
        elim (first_or_rest (warning_at l t) more w c) [
          | inl same ↦ (t, here t ts, e, sym same)
          | inr rest ↦ let found = on rest in (found.0, there t ts found.0 found.1, found.2, found.3)
        ]

    in_warned : (ts : Words) (w : Warning) → Contains (warned ps placed l ts) w → (t : List ℕ) × Contains ts t × (may_set ps placed l.scope t ≡ false) × (w ≡ warning_at l t)
    in_warned [] w c = absurd (in_none w c)
    in_warned (t ∷ ts) w c = warned_first (may_set ps placed l.scope t) t ts (warned ps placed l ts) w refl (in_warned ts w) c

    more_warned : (b : Bool) (t : List ℕ) (more : List Warning) (w : Warning) → Contains more w → Contains (cond b more (warning_at l t ∷ more)) w
    more_warned true t more w c = c
    more_warned false t more w c = there (warning_at l t) more w c

    warned_has : (ts : Words) (t : List ℕ) → Contains ts t → may_set ps placed l.scope t ≡ false → Contains (warned ps placed l ts) (warning_at l t)
    warned_has [] t c may = absurd (in_none t c)
    warned_has (u ∷ ts) t c may =
        elim (first_or_rest u ts t c) [
          | inl same ↦
              subst (λ (b : Bool). Contains (cond b (warned ps placed l ts) (warning_at l u ∷ warned ps placed l ts)) (warning_at l t)) (sym (ap (may_set ps placed l.scope) same ∙ may))
              (subst (λ (x : List ℕ). Contains (warning_at l u ∷ warned ps placed l ts) (warning_at l x)) same (here (warning_at l u) (warned ps placed l ts)))
          | inr rest ↦ more_warned (may_set ps placed l.scope u) u (warned ps placed l ts) (warning_at l t) (warned_has ts t rest may)
        ]

  -- a word of the line is dropped, and warned of
  abbrev pub Drops : PlacedLine → List (List ℕ) → Warning → Type 0
  Drops line words w = (text : List ℕ) × IsMeant is_repo_group placed line.scope words text × (MaySet placed line.scope (repo_of text) → ⊥) × (w ≡ warning_at line text)

  module _ (ok : AreTrue ps) (l : PlacedLine) (words : Words) where
    drops : (w : Warning) → Contains (warnings_for ps placed l words) w → Drops l words w
    drops w c =
        let found = in_warned l (flat_map (expanded placed l.scope) words) w c in
        (found.0, in_texts placed l.scope words found.0 found.1, λ may. let bad : true ≡ false = sym (is_may ps placed ok l.scope found.0 may) ∙ found.2 in cc, found.3)

    dropped : (w : Warning) → Drops l words w → Contains (warnings_for ps placed l words) w
    dropped w (text, meant, may_not, is) =
        subst (λ (x : Warning). Contains (warnings_for ps placed l words) x) (sym is)
        (warned_has l (flat_map (expanded placed l.scope) words) text (texts_meant placed l.scope words text meant)
        (false_from_ne_true (may_set ps placed l.scope text) (λ may. may_not (may_is ps placed ok l.scope text may))))

  abbrev pub DroppedIn : List Placed → Warning → Type 0
  DroppedIn lines w = (before : List Placed) × (line : PlacedLine) × (words : List (List ℕ)) × IsBehind lines before line × (line.statement ≡ Repo words) × Drops line words w

  pub record WarningsAre (lines : List Placed) (warnings : List Warning) : Type 0 where
    pub of : (w : Warning) → Contains warnings w → DroppedIn lines w
    pub all : (w : Warning) → DroppedIn lines w → Contains warnings w

  still_dropped : (lines : List Placed) (p : Placed) (w : Warning) → DroppedIn lines w → DroppedIn (lines ++ p ∷ []) w
  still_dropped lines p w (before, line, words, behind, says, has) = (before, line, words, (behind.0 ++ p ∷ [], cut_stays lines before (at.Line line) behind.0 p behind.1), says, has)

  pub no_warnings_first : WarningsAre [] []
  no_warnings_first = record { of = λ w c. absurd (in_none w c); all = λ w (before, line, words, behind, says, has). absurd (nothing_at before (at.Line line) behind.0 behind.1) }

  -- a place that is no `repo` line
  pub warnings_stay : (lines : List Placed) (p : Placed) (warnings more : List Warning) → more ≡ warnings
      → ((line : PlacedLine) (words : List (List ℕ)) → at.Line line ≡ p → line.statement ≡ Repo words → ⊥) → WarningsAre lines warnings → WarningsAre (lines ++ p ∷ []) more
  warnings_stay lines p warnings more same other h = record {
    of = λ w c. still_dropped lines p w (h.of w (subst (λ (ws : List Warning). Contains ws w) same c));
    all = λ w (before, line, words, behind, says, has). elim (cut lines p before (at.Line line) behind.0 behind.1) [
      | inl (at_end, last, none) ↦ absurd (other line words last says)
      | inr (inner, cut_at, rest) ↦ subst (λ (ws : List Warning). Contains ws w) (sym same) (h.all w (before, line, words, (inner, cut_at), says, has))
    ];
  }

  -- a `repo` line
  pub warnings_come : (ok : AreTrue ps) (lines : List Placed) (l : PlacedLine) (words : List (List ℕ)) (warnings more : List Warning) → l.statement ≡ Repo words
      → more ≡ warnings ++ warnings_for ps placed l words → WarningsAre lines warnings → WarningsAre (lines ++ at.Line l ∷ []) more
  warnings_come ok lines l words warnings more said same h = record {
    of = λ w c. elim (Contains-append_cases warnings (warnings_for ps placed l words) w (subst (λ (ws : List Warning). Contains ws w) same c)) [
      | inl old ↦ still_dropped lines (at.Line l) w (h.of w old)
      | inr new ↦ (lines, l, words, ([], refl), said, drops ok l words w new)
    ];
    all = λ w (before, line, its, behind, says, has). subst (λ (ws : List Warning). Contains ws w) (sym same) (elim (cut lines (at.Line l) before (at.Line line) behind.0 behind.1) [
      | inl (at_end, last, none) ↦
          let line_is : line ≡ l = same_line last in
          let both : Repo its ≡ Repo words = sym says ∙ ap (λ (m : PlacedLine). m.statement) line_is ∙ said in
          let words_are : its ≡ words = cc in
          let had : Drops l words w = subst (λ (ws : Words). Drops l ws w) words_are (subst (λ (m : PlacedLine). Drops m its w) line_is has) in
          Contains-append_right warnings (warnings_for ps placed l words) w (dropped ok l words w had)
      | inr (inner, cut_at, rest) ↦ Contains-append_left warnings (warnings_for ps placed l words) w (h.all w (before, line, its, (inner, cut_at), says, has))
    ]);
  }
