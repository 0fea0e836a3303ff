-- The laws of rules.
use Rattle.std.proofs.Common.{◌≡◌, ◌++◌, ◌+◌, List, [], ◌∷◌, Bool, true, false, length, Contains, Ok, refl, sym, ap, ◌∙◌, subst, arith, length-append}
use Rattle.std.proofs.lemmas.List.{append_assoc}
use Rattle.conf_lex.specs.declared.statement.Statement.{Statement}
use Rattle.conf_lex.specs.declared.statement.Statement.TheVariants as statement
use Rattle.conf_groups.specs.Splicing.{spliced}
use Rattle.conf_groups.specs.declared.conf_file.ConfFile.{ConfFile}
use Rattle.conf_groups.specs.declared.placed.Placed.{Placed}
use Rattle.conf_groups.specs.declared.placed.Placed.TheVariants as at
use Rattle.conf_groups.specs.declared.placed.PlacedLine.{PlacedLine}
use Rattle.conf_groups.specs.declared.placed.Scope.{Scope}
use Rattle.rule_compile.specs.Patterns.{AreTrue, Patterns}
use Rattle.rule_compile.specs.Words.{refex_texts, refexes_in, users_of}
use Rattle.rule_compile.specs.Flat.{Flat, State, after_splicing, compiled_all, flat, for_words, nothing, placed_step}
use Rattle.rule_compile.specs.declared.rule.Rule.{Rule}
use Rattle.rule_compile.proofs.SoundLemmas.{conf_is_sound}
use Rattle.rule_laws.specs.Conf.{IsAt, MaySet, is_no_repo, says_option}
use Rattle.rule_laws.specs.Laws.{DroppedAreWarned, LinesGiveOptions, LinesGiveRules, LinesNeverGoBack, NumbersHaveNoGap, OptionsAreOfLines, PlainAreOnce, PlainAreWorded, RulesAreOfLines, RulesComeInOrder, SubconfsStayInside}
use Rattle.rule_laws.proofs.ScopeLemmas.{one_scope}
use Rattle.rule_laws.proofs.StepLemmas.{Effect, Keeps, by_places, drafted, ends, line_does}
use Rattle.rule_laws.proofs.BlockLemmas.{BlockIs, block_opens, block_stays, no_block_behind, no_block_first, no_end, same_line}
use Rattle.rule_laws.proofs.RuleLemmas.{RulesAre, no_rules_first, rules_come, rules_stay}
use Rattle.rule_laws.proofs.OrderLemmas.{NotAfter, Ordered, drafted_ordered, lines_in_order, never_back, not_after, number_at, of_line, ordered_append}
use Rattle.rule_laws.proofs.PlainLemmas.{PlainIs, names_come, names_stay, no_names_first}
use Rattle.rule_laws.proofs.OptionLemmas.{OptionsAre, no_options_first, options_come, options_stay}
use Rattle.rule_laws.proofs.WarningLemmas.{WarningsAre, no_warnings_first, warnings_come, warnings_stay}

-- ---- what a line says

abbrev is_repo : Statement → Bool
is_repo (statement.Repo words) = true
is_repo other = false

abbrev is_rule : Statement → Bool
is_rule (statement.Rule perm refexes users) = true
is_rule other = false

-- a line that says something else is another line
another : (test : Statement → Bool) (l line : PlacedLine) (a b : Statement) → l.statement ≡ b → test b ≡ false → at.Line line ≡ at.Line l → line.statement ≡ a → test a ≡ true → ⊥
another test l line a b said off last says on =
    let bad : true ≡ false = sym on ∙ ap test (sym says ∙ ap (λ (m : PlacedLine). m.statement) (same_line last) ∙ said) ∙ off in
    cc

-- ---- one place more

module _ (ps : Patterns) (placed : List Placed) where
  -- what the places so far came to
  record CameTo (lines : List Placed) (s : State) : Type 0 where
    block : BlockIs ps placed lines s.block
    rules : RulesAre ps placed lines s.flat.rules
    plain : PlainIs ps placed lines s.flat.plain
    options : OptionsAre ps placed lines s.flat.options
    warnings : WarningsAre ps placed lines s.flat.warnings

  at_first : CameTo [] nothing
  at_first = record {
    block = no_block_first ps placed;
    rules = no_rules_first ps placed;
    plain = no_names_first ps placed;
    options = no_options_first ps placed;
    warnings = no_warnings_first ps placed;
  }

  module _ (ok : AreTrue ps) (files : List ConfFile) (is : spliced files ≡ Ok placed) where
    -- and in order
    abbrev Came : List Placed → State → Type 0
    Came lines s = CameTo lines s × Ordered files placed is s.flat.rules

    module _ (lines : List Placed) (l : PlacedLine) (rest : List Placed) (s t : State) (are : placed ≡ lines ++ at.Line l ∷ rest) (h : Came lines s) where
      -- a rule of an earlier line, and one of this
      later : (a b : Rule) → Contains s.flat.rules a → IsAt b l → NotAfter files placed is a b
      later a b c at_l =
          let found = h.0.rules.of a c in
          let place : placed ≡ found.0 ++ at.Line found.1 ∷ (found.2.0 ++ at.Line l ∷ rest) =
          are ∙ ap (λ (ls : List Placed). ls ++ at.Line l ∷ rest) found.2.1 ∙ append_assoc found.0 (at.Line found.1 ∷ found.2.0) (at.Line l ∷ rest) in
          let more = length-append found.0 (at.Line found.1 ∷ found.2.0) in
          let long : length lines ≡ length (found.0 ++ at.Line found.1 ∷ found.2.0) = ap length found.2.1 in
          not_after files placed is found.0 lines found.1 l a b (found.2.0 ++ at.Line l ∷ rest, place) (rest, are) found.3.place at_l (omega (arith, more, long))

      module _ (st : Statement) (said : l.statement ≡ st) where
        rules_as_before : is_rule st ≡ false → t.flat.rules ≡ s.flat.rules → RulesAre ps placed (lines ++ at.Line l ∷ []) t.flat.rules
        rules_as_before off same = rules_stay ps placed lines (at.Line l) s.flat.rules t.flat.rules same (λ line r last refexes users says. another is_rule l line _ st said off last says refl) h.0.rules

        names_as_before : is_repo st ≡ false → t.flat.plain ≡ s.flat.plain → PlainIs ps placed (lines ++ at.Line l ∷ []) t.flat.plain
        names_as_before off same = names_stay ps placed lines (at.Line l) s.flat.plain t.flat.plain same (λ line words last says. another is_repo l line _ st said off last says refl) h.0.plain

        options_as_before : says_option st ≡ false → t.flat.options ≡ s.flat.options → OptionsAre ps placed (lines ++ at.Line l ∷ []) t.flat.options
        options_as_before off same = options_stay ps placed lines (at.Line l) s.flat.options t.flat.options same (ap says_option said ∙ off) h.0.options

        warnings_as_before : is_repo st ≡ false → t.flat.warnings ≡ s.flat.warnings → WarningsAre ps placed (lines ++ at.Line l ∷ []) t.flat.warnings
        warnings_as_before off same = warnings_stay ps placed lines (at.Line l) s.flat.warnings t.flat.warnings same (λ line words last says. another is_repo l line _ st said off last says refl) h.0.warnings

        block_as_before : is_no_repo st ≡ true → t.block ≡ s.block → BlockIs ps placed (lines ++ at.Line l ∷ []) t.block
        block_as_before on same = block_stays ps placed lines l s.block t.block (ap is_no_repo said ∙ on) same h.0.block

        keeps : is_no_repo st ≡ true → is_repo st ≡ false → is_rule st ≡ false → says_option st ≡ false → Keeps s t → Came (lines ++ at.Line l ∷ []) t
        keeps goes_on no_repo no_rule no_option does = (
          record {
            block = block_as_before goes_on does.block;
            rules = rules_as_before no_rule does.rules;
            plain = names_as_before no_repo does.plain;
            options = options_as_before no_option does.options;
            warnings = warnings_as_before no_repo does.warnings;
          },
          subst (Ordered files placed is) (sym does.rules) h.1,
        )

      effect : (st : Statement) → l.statement ≡ st → Effect ps placed (length lines) l st s t → Came (lines ++ at.Line l ∷ []) t
      effect (statement.Repo words) said does = (
        record {
          block = block_opens ps placed lines l words t.block said does.block;
          rules = rules_as_before (statement.Repo words) said refl does.rules;
          plain = names_come ps placed ok lines l words s.flat.plain t.flat.plain said does.plain h.0.plain;
          options = options_as_before (statement.Repo words) said refl does.options;
          warnings = warnings_come ps placed ok lines l words s.flat.warnings t.flat.warnings said does.warnings h.0.warnings;
        },
        subst (Ordered files placed is) (sym does.rules) h.1,
      )
      effect (statement.Rule perm refexes users) said does =
          let drafts = for_words does.words (refex_texts (refexes_in placed (length lines) l.scope refexes)) (users_of placed l.scope users) in (
            record {
              block = block_as_before (statement.Rule perm refexes users) said refl does.same;
              rules = rules_come ps placed ok lines l rest are perm refexes users s t said h.0.block does h.0.rules;
              plain = names_as_before (statement.Rule perm refexes users) said refl does.plain;
              options = options_as_before (statement.Rule perm refexes users) said refl does.options;
              warnings = warnings_as_before (statement.Rule perm refexes users) said refl does.warnings;
            },
            subst (Ordered files placed is) (sym does.rules)
                (ordered_append files placed is s.flat.rules (drafted l perm (length s.flat.rules + 1) drafts) h.1 (drafted_ordered files placed is l perm lines (rest, are) (length s.flat.rules + 1) drafts)
                (λ a b c d. later a b c (of_line files placed is l perm (length s.flat.rules + 1) drafts b d))),
          )
      effect (statement.Opt key value) said does = (
        record {
          block = block_as_before (statement.Opt key value) said refl does.same;
          rules = rules_as_before (statement.Opt key value) said refl does.rules;
          plain = names_as_before (statement.Opt key value) said refl does.plain;
          options = options_come ps placed ok lines l key value s t said h.0.block (λ b. one_scope files placed lines l b is (rest, are)) does h.0.options;
          warnings = warnings_as_before (statement.Opt key value) said refl does.warnings;
        },
        subst (Ordered files placed is) (sym does.rules) h.1,
      )
      effect (statement.Group name members) said does = keeps (statement.Group name members) said refl refl refl refl does
      effect statement.Blank said does = keeps statement.Blank said refl refl refl refl does
      effect (statement.Include pattern) said does = keeps (statement.Include pattern) said refl refl refl refl does
      effect (statement.Subconf pattern) said does = keeps (statement.Subconf pattern) said refl refl refl refl does
      effect statement.NoEffect said does = keeps statement.NoEffect said refl refl refl refl does

    step : (lines : List Placed) (p : Placed) (rest : List Placed) (s t : State) → placed ≡ lines ++ p ∷ rest → Came lines s → placed_step ps placed (length lines) p s ≡ Ok t
        → Came (lines ++ p ∷ []) t
    step lines at.EndOfBlock rest s t are h e = (
      subst (CameTo (lines ++ at.EndOfBlock ∷ [])) (ends ps placed (length lines) s t e)
          (record {
            block = no_block_behind ps placed lines;
            rules = rules_stay ps placed lines at.EndOfBlock s.flat.rules s.flat.rules refl (λ line r last refexes users says. no_end last) h.0.rules;
            plain = names_stay ps placed lines at.EndOfBlock s.flat.plain s.flat.plain refl (λ line words last says. no_end last) h.0.plain;
            options = options_stay ps placed lines at.EndOfBlock s.flat.options s.flat.options refl refl h.0.options;
            warnings = warnings_stay ps placed lines at.EndOfBlock s.flat.warnings s.flat.warnings refl (λ line words last says. no_end last) h.0.warnings;
          }),
      subst (λ (u : State). Ordered files placed is u.flat.rules) (ends ps placed (length lines) s t e) h.1,
    )
    step lines (at.Line l) rest s t are h e = effect lines l rest s t are h l.statement refl (line_does ps placed (length lines) l s t e)

    compiles : (conf : Flat) → flat ps files ≡ Ok conf → compiled_all ps placed ≡ Ok conf
    compiles conf e = ap (after_splicing ps) (sym is) ∙ e

    record OfConf (conf : Flat) : Type 0 where
      rules : RulesAre ps placed placed conf.rules
      plain : PlainIs ps placed placed conf.plain
      options : OptionsAre ps placed placed conf.options
      warnings : WarningsAre ps placed placed conf.warnings
      order : Ordered files placed is conf.rules

    of_conf : (conf : Flat) → flat ps files ≡ Ok conf → OfConf conf
    of_conf conf e =
        let all = by_places ps placed Came step placed [] nothing conf refl (at_first, tt) (compiles conf e) in
        subst OfConf all.2 (record { rules = all.1.0.rules; plain = all.1.0.plain; options = all.1.0.options; warnings = all.1.0.warnings; order = all.1.1 })

-- ---- the laws

pub rules_of_lines : RulesAreOfLines
rules_of_lines ps files placed conf ok is e rule c = (of_conf ps placed ok files is conf e).rules.of rule c

pub lines_give_rules : LinesGiveRules
lines_give_rules ps files placed conf ok is e before line rule behind of = (of_conf ps placed ok files is conf e).rules.all before line rule behind of

pub subconfs_stay_inside : SubconfsStayInside
subconfs_stay_inside ps files placed conf ok is e rule subconf c scope =
    let found = (of_conf ps placed ok files is conf e).rules.of rule c in
    let at_line = found.3 in
    let one = one_scope files placed found.0 found.1 at_line.block is found.2 in
    subst (λ (s : Scope). MaySet placed s rule.repo) (sym one ∙ sym at_line.scope ∙ scope) at_line.repo.3

pub numbers_no_gap : NumbersHaveNoGap
numbers_no_gap ps files placed conf ok is e i rule there =
    let number = number_at 1 conf.rules i rule (conf_is_sound ps ok placed conf (compiles ps placed ok files is conf e)).numbered there in
    omega (arith, number)

pub lines_not_back : LinesNeverGoBack
lines_not_back ps files placed conf ok is e a b c d =
    let all = of_conf ps placed ok files is conf e in
    let of_a = all.rules.of a c in
    let of_b = all.rules.of b d in
    λ same less. never_back files placed is conf.rules of_a.0 of_b.0 of_a.1 of_b.1 a b (conf_is_sound ps ok placed conf (compiles ps placed ok files is conf e)).numbered all.order of_a.2 of_b.2 c d of_a.3.place of_b.3.place same less

pub rules_in_order : RulesComeInOrder
rules_in_order ps files placed conf ok is e before between after earlier later a b are c d at_a at_b =
    lines_in_order files placed is conf.rules before between after earlier later a b (conf_is_sound ps ok placed conf (compiles ps placed ok files is conf e)).numbered
    (of_conf ps placed ok files is conf e).order are c d at_a at_b

pub plain_are_worded : PlainAreWorded
plain_are_worded ps files placed conf ok is e name = ((of_conf ps placed ok files is conf e).plain.of name, (of_conf ps placed ok files is conf e).plain.all name)

pub options_of_lines : OptionsAreOfLines
options_of_lines ps files placed conf ok is e option c = (of_conf ps placed ok files is conf e).options.of option c

pub lines_give_options : LinesGiveOptions
lines_give_options ps files placed conf ok is e before line key value behind says = (of_conf ps placed ok files is conf e).options.all before line key value behind says

pub plain_once : PlainAreOnce
plain_once ps files placed conf ok is e = (of_conf ps placed ok files is conf e).plain.once

pub dropped_are_warned : DroppedAreWarned
dropped_are_warned ps files placed conf ok is e warning = ((of_conf ps placed ok files is conf e).warnings.of warning, (of_conf ps placed ok files is conf e).warnings.all warning)
