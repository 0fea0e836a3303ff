-- What is due of questions and confs.
use Rattle.std.proofs.Common.{◌≡◌, ◌<◌, ◌++◌, ◌∷◌, [], List, ℕ, Option, Some, None, length, arith, length-append, subst, sym}
use Rattle.std.specs.Prelude.{Result, Ok, Err}
use Rattle.conf_groups.specs.declared.conf_file.ConfFile.{ConfFile}
use Rattle.pktline_core.specs.LinkState.{LinkState}
use Rattle.rule_compile.specs.Faults.{policy_text}
use Rattle.rule_compile.specs.Flat.{Flat, flat}
use Rattle.rule_compile.specs.Patterns.{Patterns}
use Rattle.rule_compile.specs.declared.fault.PolicyFault.{PolicyFault}
use Rattle.access_report.specs.Access.{Prints, conf_fault, due_by, due_of, due_over, due_over_two}
use Rattle.access_report.specs.Lists.{QuestionLists}
use Rattle.access_report.specs.Reading.{fault_text}
use Rattle.access_report.specs.declared.access.Printed.{Printed}
use Rattle.access_report.specs.declared.reading.AskFault.{AskFault}
use Rattle.access_report.specs.declared.report.ReportFault.{ReportFault}
use Rattle.access_report.proofs.TextLemmas.{some_changes, some_report}

some_feed : (text : List ℕ) → 0 < length (text ++ 10 ∷ [])
some_feed text = omega (arith, length-append text (10 ∷ []))

pub some_fault : (fault : PolicyFault) → 0 < length (conf_fault fault)
some_fault fault = some_feed (policy_text fault)

pub some_over_two : (ps : Patterns) (q : QuestionLists) (old : Flat) (found : Result Flat PolicyFault) → 0 < length (due_over_two ps q old found).text
some_over_two ps q old (Ok new) = some_changes ps old new q
some_over_two ps q old (Err fault) = some_fault fault

some_over : (ps : Patterns) (q : QuestionLists) (rules : Flat) (other : Option (List ConfFile)) → 0 < length (due_over ps q rules other).text
some_over ps q rules None = some_report ps rules q
some_over ps q rules (Some other) = some_over_two ps q rules (flat ps other)

pub some_by : (ps : Patterns) (q : QuestionLists) (found : Result Flat PolicyFault) (other : Option (List ConfFile)) → 0 < length (due_by ps q found other).text
some_by ps q (Ok rules) other = some_over ps q rules other
some_by ps q (Err fault) other = some_fault fault

pub some_of : (ps : Patterns) (found : Result QuestionLists AskFault) (conf : List ConfFile) (other : Option (List ConfFile)) → 0 < length (due_of ps found conf other).text
some_of ps (Ok q) conf other = some_by ps q (flat ps conf) other
some_of ps (Err fault) conf other = some_feed (fault_text fault)

module _ (a b : LinkState) (ps : Patterns) (r : Result Printed ReportFault) where
  pub two_found : (q : QuestionLists) (old : Flat) (found is : Result Flat PolicyFault) → found ≡ is → Prints a b (due_over_two ps q old is) r → Prints a b (due_over_two ps q old found) r
  two_found q old found is same prints = subst (λ (x : Result Flat PolicyFault). Prints a b (due_over_two ps q old x) r) (sym same) prints

  pub by_found : (q : QuestionLists) (other : Option (List ConfFile)) (found is : Result Flat PolicyFault) → found ≡ is → Prints a b (due_by ps q is other) r → Prints a b (due_by ps q found other) r
  by_found q other found is same prints = subst (λ (x : Result Flat PolicyFault). Prints a b (due_by ps q x other) r) (sym same) prints

  pub of_found : (conf : List ConfFile) (other : Option (List ConfFile)) (found is : Result QuestionLists AskFault) → found ≡ is → Prints a b (due_of ps is conf other) r → Prints a b (due_of ps found conf other) r
  of_found conf other found is same prints = subst (λ (x : Result QuestionLists AskFault). Prints a b (due_of ps x conf other) r) (sym same) prints
