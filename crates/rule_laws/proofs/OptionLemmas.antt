-- Options are of option lines.
use Rattle.std.proofs.Common.{◌≡◌, ◌++◌, true, false, length, length-append, arith, ℕ, List, [], ◌∷◌, Contains, Some, inl, inr, refl, sym, ap, ◌∙◌, subst}
use Rattle.std.specs.Prelude.{filter, slice_get}
use Rattle.std.proofs.lemmas.List.Elements.{Contains-append_cases}
use Rattle.conf_lex.specs.declared.statement.Statement.TheVariants.{Opt}
use Rattle.conf_groups.specs.declared.placed.Placed.{Placed}
use Rattle.conf_groups.specs.declared.placed.Placed.TheVariants as at
use Rattle.conf_groups.specs.declared.placed.PlacedLine.{PlacedLine}
use Rattle.conf_groups.specs.declared.placed.Scope.{Scope}
use Rattle.rule_compile.specs.Patterns.{AreTrue, Patterns}
use Rattle.rule_compile.specs.Flat.{State}
use Rattle.rule_compile.specs.declared.rule.OptionLine.{OptionLine}
use Rattle.rule_compile.specs.declared.rule.RepoWord.{RepoWord}
use Rattle.rule_laws.specs.Conf.{Block, HasWord, IsBehind, IsOption, MaySet, is_option, says_option}
use Rattle.rule_laws.proofs.ListLemmas.{cut, cut_stays, in_none, last_there, none_more_of, nothing_at, one_more_of, only, still_there}
use Rattle.rule_laws.proofs.WordLemmas.{has_word, word_had}
use Rattle.rule_laws.proofs.StepLemmas.{Sets}
use Rattle.rule_laws.proofs.BlockLemmas.{BlockIs, same_line}

module _ (ps : Patterns) (placed : List Placed) where
  abbrev pub IsOptionOfSome : List Placed → OptionLine → Type 0
  IsOptionOfSome lines o = (before : List Placed) × (line : PlacedLine) × IsBehind lines before line × IsOption placed before line o

  pub record OptionsAre (lines : List Placed) (options : List OptionLine) : Type 0 where
    pub of : (o : OptionLine) → Contains options o → IsOptionOfSome lines o
    pub all : (before : List Placed) (line : PlacedLine) (key value : List ℕ) → IsBehind lines before line → line.statement ≡ Opt key value
        → (o : OptionLine) × (slice_get options (length (filter is_option before)) ≡ Some o) × IsOption placed before line o
    pub many : length options ≡ length (filter is_option lines)

  still_of : (lines : List Placed) (p : Placed) (o : OptionLine) → IsOptionOfSome lines o → IsOptionOfSome (lines ++ p ∷ []) o
  still_of lines p o (before, line, behind, is) = (before, line, (behind.0 ++ p ∷ [], cut_stays lines before (at.Line line) behind.0 p behind.1), is)

  pub no_options_first : OptionsAre [] []
  no_options_first = record { of = λ o c. absurd (in_none o c); all = λ before line key value behind says. absurd (nothing_at before (at.Line line) behind.0 behind.1); many = refl }

  -- a place that is no option line
  pub options_stay : (lines : List Placed) (p : Placed) (options more : List OptionLine) → more ≡ options
      → is_option p ≡ false → OptionsAre lines options → OptionsAre (lines ++ p ∷ []) more
  options_stay lines p options more same off h = record {
    of = λ o c. still_of lines p o (h.of o (subst (λ (os : List OptionLine). Contains os o) same c));
    all = λ before line key value behind says. elim (cut lines p before (at.Line line) behind.0 behind.1) [
      | inl (at_end, last, none) ↦ absurd (let bad : true ≡ false = sym (ap says_option says) ∙ ap is_option last ∙ off in cc)
      | inr (inner, cut_at, rest) ↦
          let found = h.all before line key value (inner, cut_at) says in
          (found.0, subst (λ (os : List OptionLine). slice_get os (length (filter is_option before)) ≡ Some found.0) (sym same) found.1, found.2)
    ];
    many = ap length same ∙ h.many ∙ sym (none_more_of is_option lines p off);
  }

  module _ (ok : AreTrue ps) (lines : List Placed) (l : PlacedLine) (key value : List ℕ) (s t : State) (said : l.statement ≡ Opt key value) (block : BlockIs ps placed lines s.block)
      (one : (b : Block lines) → l.scope ≡ b.opening.scope) (does : Sets key value s t) where
    abbrev option : OptionLine
    option = record { repos = does.words; key = key; value = value }

    option_is : IsOption placed lines l option
    option_is =
        let b = block.some does.words does.block in
        let has : (w : RepoWord) → Contains does.words w → HasWord placed b.0.opening.scope b.0.words w =
        λ w c. has_word ps placed ok b.0.opening.scope b.0.words w (subst (λ (ws : List RepoWord). Contains ws w) b.1 c) in
        record {
          says = said;
          block = b.0;
          repos = λ w. (has w, λ h. subst (λ (ws : List RepoWord). Contains ws w) (sym b.1) (word_had ps placed ok b.0.opening.scope b.0.words w h));
          inside = λ w c. subst (λ (scope : Scope). MaySet placed scope w) (sym (one b.0)) (has w c).3;
        }

    pub options_come : OptionsAre lines s.flat.options → OptionsAre (lines ++ at.Line l ∷ []) t.flat.options
    options_come h = record {
      of = λ o c. elim (Contains-append_cases s.flat.options (option ∷ []) o (subst (λ (os : List OptionLine). Contains os o) does.options c)) [
        | inl old ↦ still_of lines (at.Line l) o (h.of o old)
        | inr new ↦ (lines, l, ([], refl), subst (λ (x : OptionLine). IsOption placed lines l x) (only option o new) option_is)
      ];
      all = λ before line k v behind says. elim (cut lines (at.Line l) before (at.Line line) behind.0 behind.1) [
        | inl (at_end, last, none) ↦ (
          option,
          subst (λ (ls : List Placed). slice_get t.flat.options (length (filter is_option ls)) ≡ Some option) (sym at_end)
              (subst (λ (os : List OptionLine). slice_get os (length (filter is_option lines)) ≡ Some option) (sym does.options)
              (subst (λ (n : ℕ). slice_get (s.flat.options ++ option ∷ []) n ≡ Some option) h.many (last_there s.flat.options option))),
          subst (λ (ls : List Placed). IsOption placed ls line option) (sym at_end) (subst (λ (m : PlacedLine). IsOption placed lines m option) (sym (same_line last)) option_is),
        )
        | inr (inner, cut_at, rest) ↦
            let found = h.all before line k v (inner, cut_at) says in (
              found.0,
              subst (λ (os : List OptionLine). slice_get os (length (filter is_option before)) ≡ Some found.0) (sym does.options) (still_there s.flat.options (option ∷ []) (length (filter is_option before)) found.0 found.1),
              found.2,
            )
      ];
      many = longer;
    }
      where
        longer : length t.flat.options ≡ length (filter is_option (lines ++ at.Line l ∷ []))
        longer =
            let first : length t.flat.options ≡ length (s.flat.options ++ option ∷ []) = ap length does.options in
            let long = length-append s.flat.options (option ∷ []) in
            let before = h.many in
            let more = one_more_of is_option lines (at.Line l) (ap says_option said) in
            omega (arith, first, long, before, more)
