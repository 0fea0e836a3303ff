-- What is printed of a conf.
use Rattle.std.proofs.Common.{◌≡◌, ◌∙◌, ◌++◌, ◌∷◌, List, ℕ, Bool, [], sym, ap, true, false}
use Rattle.std.specs.Prelude.{Result, Ok, Err, IfOk, is_ok}
use Rattle.base_types.specs.declared.no_memory.NoMemory.{NoMemory}
use Rattle.conf_lex.specs.declared.fault.LexFault.TheVariants as lex
use Rattle.conf_groups.specs.declared.conf_file.ConfFile.{ConfFile}
use Rattle.conf_groups.specs.declared.fault.ConfFault.{ConfFault}
use Rattle.conf_groups.specs.declared.fault.ConfKind.{ConfKind}
use Rattle.conf_groups.specs.declared.fault.ConfKind.TheVariants as kind
use Rattle.rule_compile.specs.Answers.{Gives, GivesFault, GivesSplicing}
use Rattle.rule_compile.specs.Faults.{policy_text}
use Rattle.rule_compile.specs.Flat.{Flat, flat}
use Rattle.rule_compile.specs.Patterns.{Patterns, AreTrue}
use Rattle.rule_compile.specs.declared.fault.PolicyFault.{PolicyFault}
use Rattle.rule_compile.specs.declared.fault.PolicyFault.TheVariants.{Splicing, Rules}
use Rattle.conf_check.specs.Lines.{flat_text}
use Rattle.conf_check.specs.Report.{IsPrinted, check_text, checked, fault_text, is_no_memory, is_out_of_memory, only_file}
use Rattle.conf_check.specs.declared.report.Report.{Report}

splicing_is : (k : ConfKind) (e : ConfFault) (due : Result Flat PolicyFault) → is_no_memory k ≡ false → GivesSplicing k e due → due ≡ Err (Splicing e)
splicing_is kind.NoMemory e due has gives = absurd (let bad : true ≡ false = has in cc)
splicing_is (kind.Lex lex.NoMemory) e due has gives = absurd gives
splicing_is (kind.Lex lex.NotAStatement) e due has gives = gives
splicing_is (kind.Lex lex.BadPermission) e due has gives = gives
splicing_is (kind.Lex (lex.BadWord at)) e due has gives = gives
splicing_is (kind.NoFile file) e due has gives = gives
splicing_is kind.TooLong e due has gives = gives
splicing_is kind.SubconfInSubconf e due has gives = gives

-- a fault that isn't out of memory is the one that is due
fault_is : (f : PolicyFault) (due : Result Flat PolicyFault) → is_out_of_memory f ≡ false → GivesFault f due → due ≡ Err f
fault_is (Splicing e) due has gives = splicing_is e.kind e due has gives
fault_is (Rules e) due has gives = gives

module _ (input : List ℕ) (files : List ConfFile) (only : files ≡ only_file input) where
  comes_to : (ps : Patterns) (due : Result Flat PolicyFault) → flat ps files ≡ due → checked ps input ≡ due
  comes_to ps due e = ap (flat ps) (sym only) ∙ e

  pub rules_printed : (conf : Flat) → ((ps : Patterns) → AreTrue ps → Gives (Ok conf) (flat ps files))
      → (r : Result Report NoMemory) → IfOk r (λ report. (report.has_rules ≡ true) × (report.text.items ≡ flat_text conf))
      → IfOk r (λ report. IsPrinted input report.has_rules report.text.items)
  rules_printed conf gives (Ok report) is = λ ps true_answers.
      let e = comes_to ps (Ok conf) (gives ps true_answers) in
      (ap is_ok e ∙ sym is.0, ap check_text e ∙ sym is.1)
  rules_printed conf gives (Err e) is = tt

  pub fault_printed : (f : PolicyFault) → ((ps : Patterns) → AreTrue ps → Gives (Err f) (flat ps files))
      → (r : Result Report NoMemory) → IfOk r (λ report. (is_out_of_memory f ≡ false) × (report.has_rules ≡ false) × (report.text.items ≡ fault_text f))
      → IfOk r (λ report. IsPrinted input report.has_rules report.text.items)
  fault_printed f gives (Ok report) is = λ ps true_answers.
      let e = comes_to ps (Err f) (fault_is f (flat ps files) is.0 (gives ps true_answers)) in
      (ap is_ok e ∙ sym is.1, ap check_text e ∙ sym is.2)
  fault_printed f gives (Err e) is = tt
