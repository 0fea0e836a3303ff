-- What holds of the conf of a new hub.
use Rattle.std.specs.Prelude.{◌≡◌, true, List, Ok}
use Rattle.conf_lex.specs.Names.{is_user_name}
use Rattle.conf_groups.specs.declared.conf_file.ConfFile.{ConfFile}
use Rattle.rule_compile.specs.Flat.{Flat, flat}
use Rattle.rule_compile.specs.Patterns.{AreTrue, Patterns}
use Rattle.setup_conf.specs.Setup.{Name, setup_files, setup_flat}

-- For every user's name the files come to the two rules, without a fault, by all answers about patterns that
-- are true.
abbrev pub SetupComesToRules : Type 0
SetupComesToRules = (patterns : Patterns) → AreTrue patterns → (admin : Name) → is_user_name admin ≡ true → flat patterns (setup_files admin) ≡ Ok (setup_flat admin)

-- Files come to these rules, without a fault, by all answers about patterns that are true. It serves a
-- private function alone.
pub record ComesTo (files : List ConfFile) (rules : Flat) : Type 0 where
  pub by : (patterns : Patterns) → AreTrue patterns → flat patterns files ≡ Ok rules
