-- The five lines of a new hub's conf come to its two rules.
use Rattle.std.proofs.Common.{◌≡◌, ◌+◌, ℕ, List, [], ◌∷◌, true, false, None, Some, refl, ap, subst, ◌∙◌}
use Rattle.std.specs.Prelude.{codes, drop, Ok}
use Rattle.std.specs.Str.{bytes_eq}
use Rattle.conf_lex.specs.Names.{is_user_name}
use Rattle.conf_lex.specs.Words.{begins_with_at}
use Rattle.conf_lex.specs.declared.statement.Statement.{Statement}
use Rattle.conf_lex.specs.declared.statement.Statement.TheVariants as said
use Rattle.conf_groups.specs.declared.conf_file.ConfFile.{ConfFile}
use Rattle.conf_groups.specs.declared.placed.Placed.{Placed}
use Rattle.refex.specs.declared.faults.Hole.TheVariants.{User}
use Rattle.rule_compile.specs.Flat.{State, after_splicing, and_then, compiled, compiled_all, flat, nothing, placed_step}
use Rattle.rule_compile.specs.Patterns.{Patterns}
use Rattle.rule_compile.specs.declared.rule.RepoWord.{RepoWord}
use Rattle.rule_compile.specs.declared.rule.RepoWord.TheVariants.{Plain}
use Rattle.rule_compile.specs.declared.rule.Rule.{Rule}
use Rattle.rule_compile.specs.declared.rule.UserWord.TheVariants as user
use Rattle.rule_compile.proofs.PatternLemmas.{no_fault}
use Rattle.setup_conf.specs.Laws.{ComesTo, SetupComesToRules}
use Rattle.setup_conf.specs.Setup.{Name, setup_files, setup_flat, setup_rule}
use Rattle.setup_conf.proofs.NameLemmas.{name_is_plain}
use Rattle.setup_conf.proofs.RefexLemmas.{all_refs_are_a_pattern}
use Rattle.setup_conf.proofs.SplicedLemmas.{everything, placed, placed_line, setup_is_spliced}

-- What the lines before a place came to: the words of the block, the rules, the plain names and the texts.
abbrev state : List RepoWord → List Rule → List (List ℕ) → List (List ℕ) → State
state words rules names texts = record { block = Some words; flat = record { rules = rules; warnings = []; options = []; plain = names }; texts = texts }

module _ (patterns : Patterns) (good : patterns.fault User (codes "refs/.*") ≡ None) (admin : List ℕ) (is_name : is_user_name admin ≡ true) (no_at : begins_with_at admin ≡ false) (no_all : bytes_eq admin (codes "@all") ≡ false) where
  abbrev rule_1 : Rule
  rule_1 = setup_rule 1 (codes "gitolite-admin") (user.Name admin) 2

  abbrev rule_2 : Rule
  rule_2 = setup_rule 2 (codes "testing") user.All 5

  abbrev state_1 : State
  state_1 = state (Plain (codes "gitolite-admin") ∷ []) [] (codes "gitolite-admin" ∷ []) []

  abbrev state_2 : State
  state_2 = state (Plain (codes "gitolite-admin") ∷ []) (rule_1 ∷ []) (codes "gitolite-admin" ∷ []) (codes "refs/.*" ∷ [])

  abbrev state_4 : State
  state_4 = state (Plain (codes "testing") ∷ []) (rule_1 ∷ []) (codes "gitolite-admin" ∷ codes "testing" ∷ []) (codes "refs/.*" ∷ [])

  abbrev state_5 : State
  state_5 = state (Plain (codes "testing") ∷ []) (rule_1 ∷ rule_2 ∷ []) (codes "gitolite-admin" ∷ codes "testing" ∷ []) (codes "refs/.*" ∷ [])

  -- a line at its place leads from what the lines before it came to, to what it comes to with them
  abbrev Leads : ℕ → ℕ → Statement → State → State → Type 0
  Leads place n said before after = placed_step patterns (placed admin) place (placed_line n said) before ≡ Ok after

  line_1 : Leads 0 1 (said.Repo (codes "gitolite-admin" ∷ [])) nothing state_1
  line_1 = refl

  line_2 : Leads 1 2 (said.Rule everything [] (admin ∷ [])) state_1 state_2
  line_2 = rw (no_at, good, no_all, is_name) refl

  line_4 : Leads 3 4 (said.Repo (codes "testing" ∷ [])) state_2 state_4
  line_4 = refl

  line_5 : Leads 4 5 (said.Rule everything [] (codes "@all" ∷ [])) state_4 state_5
  line_5 = rw good refl

  read_on : (place : ℕ) (line : Placed) (rest : List Placed) (before after : State) → placed_step patterns (placed admin) place line before ≡ Ok after
      → compiled patterns (placed admin) place (line ∷ rest) before ≡ compiled patterns (placed admin) (place + 1) rest after
  read_on place line rest before after e = ap (λ s. and_then s (compiled patterns (placed admin) (place + 1) rest)) e

  rules_are : compiled_all patterns (placed admin) ≡ Ok (setup_flat admin)
  rules_are =
      read_on 0 (placed_line 1 (said.Repo (codes "gitolite-admin" ∷ []))) (drop 1 (placed admin)) nothing state_1 line_1
      ∙ read_on 1 (placed_line 2 (said.Rule everything [] (admin ∷ []))) (drop 2 (placed admin)) state_1 state_2 line_2
      ∙ read_on 2 (placed_line 3 said.Blank) (drop 3 (placed admin)) state_2 state_2 refl
      ∙ read_on 3 (placed_line 4 (said.Repo (codes "testing" ∷ []))) (drop 4 (placed admin)) state_2 state_4 line_4
      ∙ read_on 4 (placed_line 5 (said.Rule everything [] (codes "@all" ∷ []))) [] state_4 state_5 line_5

pub setup_comes_to_rules : SetupComesToRules
setup_comes_to_rules patterns true_ps admin is_name =
    let plain = name_is_plain admin is_name in
    let good = no_fault patterns true_ps User (codes "refs/.*") all_refs_are_a_pattern.0 all_refs_are_a_pattern.1 in
    ap (after_splicing patterns) (setup_is_spliced admin is_name) ∙ rules_are patterns good admin is_name plain.no_at plain.no_all

-- files that are those of a new hub, whose admin has a user's name
pub files_come_to_rules : (admin bytes : Name) (files : List ConfFile) → bytes ≡ admin → is_user_name bytes ≡ true → files ≡ setup_files admin → ComesTo files (setup_flat admin)
files_come_to_rules admin bytes files same is_name are = record {
  by = λ patterns true_ps. ap (flat patterns) are ∙ setup_comes_to_rules patterns true_ps admin (subst (λ name. is_user_name name ≡ true) same is_name);
}
