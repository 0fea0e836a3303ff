-- Questions in lines, over one conf or two: what is printed.
use Rattle.std.specs.Prelude.{◌≡◌, ℕ, Bool, true, false, List, [], ◌∷◌, ◌++◌, Option, Some, None, Result, Ok, Err}
use Rattle.std.specs.Io.KnownBytes.{Appends}
use Rattle.conf_groups.specs.declared.conf_file.ConfFile.{ConfFile}
use Rattle.conf_groups.specs.declared.fault.ConfKind.{ConfKind}
use Rattle.conf_groups.specs.declared.fault.ConfKind.TheVariants as kind
use Rattle.pktline_core.specs.LinkState.{LinkState}
use Rattle.rule_compile.specs.Faults.{policy_text}
use Rattle.rule_compile.specs.Flat.{Flat, flat}
use Rattle.rule_compile.specs.Patterns.{Patterns}
use Rattle.rule_compile.specs.declared.fault.PolicyFault.{PolicyFault}
use Rattle.rule_compile.specs.declared.fault.PolicyFault.TheVariants.{Splicing, Rules}
use Rattle.access_report.specs.Lists.{QuestionLists}
use Rattle.access_report.specs.Reading.{fault_text, read}
use Rattle.access_report.specs.Report.{change_report, report}
use Rattle.access_report.specs.Writing.{StopsInside}
use Rattle.access_report.specs.declared.access.Printed.{Printed}
use Rattle.access_report.specs.declared.access.Printed.TheVariants as printed
use Rattle.access_report.specs.declared.reading.AskFault.{AskFault}
use Rattle.access_report.specs.declared.report.ReportFault.{ReportFault}

-- a text, and of what it tells
pub record Due : Type 0 where
  pub what : Printed
  pub text : List ℕ

-- a fault's text, and a line feed
abbrev pub question_fault : AskFault → List ℕ
question_fault fault = fault_text fault ++ 10 ∷ []

abbrev pub conf_fault : PolicyFault → List ℕ
conf_fault fault = policy_text fault ++ 10 ∷ []

abbrev pub due_of_fault : PolicyFault → Due
due_of_fault fault = record { what = printed.ConfFault; text = conf_fault fault }

module _ (patterns : Patterns) (q : QuestionLists) where
  -- over the rules of one conf, and what the other comes to
  abbrev pub due_over_two : Flat → Result Flat PolicyFault → Due
  due_over_two old (Ok new) = record { what = printed.Report; text = change_report patterns old new q }
  due_over_two old (Err fault) = due_of_fault fault

  abbrev pub due_over : Flat → Option (List ConfFile) → Due
  due_over rules None = record { what = printed.Report; text = report patterns rules q }
  due_over rules (Some other) = due_over_two rules (flat patterns other)

  abbrev pub due_by : Result Flat PolicyFault → Option (List ConfFile) → Due
  due_by (Ok rules) other = due_over rules other
  due_by (Err fault) other = due_of_fault fault

abbrev pub due_of : Patterns → Result QuestionLists AskFault → List ConfFile → Option (List ConfFile) → Due
due_of patterns (Ok q) conf other = due_by patterns q (flat patterns conf) other
due_of patterns (Err fault) conf other = record { what = printed.BadQuestion; text = question_fault fault }

-- What is printed of a text of questions over a conf, or over two: the fault of the questions; that of a
-- conf, of the first before that of the other; or the report.
abbrev pub access : Patterns → List ℕ → List ConfFile → Option (List ConfFile) → Due
access patterns ask conf other = due_of patterns (read ask) conf other

-- It was printed, or a beginning of it.
abbrev pub Prints : LinkState → LinkState → Due → Result Printed ReportFault → Type 0
Prints old new due (Ok what) = (what ≡ due.what) × Appends old.written new.written due.text
Prints old new due (Err fault) = StopsInside old new due.text fault

-- ---- faults

-- memory ran out, which is no fault of a conf
abbrev pub is_no_memory : ConfKind → Bool
is_no_memory kind.NoMemory = true
is_no_memory other = false

abbrev pub is_out_of_memory : PolicyFault → Bool
is_out_of_memory (Splicing fault) = is_no_memory fault.kind
is_out_of_memory (Rules fault) = false
