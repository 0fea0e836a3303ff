-- What is printed of a conf.
use Rattle.std.specs.Prelude.{◌≡◌, ℕ, Bool, true, false, List, [], ◌∷◌, ◌++◌, codes, Result, Ok, Err, is_ok}
use Rattle.conf_groups.specs.declared.conf_file.ConfFile.{ConfFile}
use Rattle.conf_groups.specs.declared.fault.ConfKind.{ConfKind}
use Rattle.conf_groups.specs.declared.fault.ConfKind.TheVariants as kind
use Rattle.rule_compile.specs.Patterns.{Patterns, AreTrue}
use Rattle.rule_compile.specs.Flat.{Flat, flat}
use Rattle.rule_compile.specs.Faults.{policy_text}
use Rattle.rule_compile.specs.declared.fault.PolicyFault.{PolicyFault}
use Rattle.rule_compile.specs.declared.fault.PolicyFault.TheVariants.{Splicing, Rules}
use Rattle.conf_check.specs.Lines.{flat_text}

-- a fault's text, and a line feed
abbrev pub fault_text : PolicyFault → List ℕ
fault_text fault = policy_text fault ++ 10 ∷ []

-- what is printed of what a conf comes to: the lines of its rules, or the line of its fault
abbrev pub check_text : Result Flat PolicyFault → List ℕ
check_text (Ok conf) = flat_text conf
check_text (Err fault) = fault_text fault

-- the input is the one file of its conf
abbrev pub only_file : List ℕ → List ConfFile
only_file input = record { name = codes "gitolite.conf"; text = input } ∷ []

-- what the conf of an input comes to
abbrev pub checked : Patterns → List ℕ → Result Flat PolicyFault
checked patterns input = flat patterns (only_file input)

-- This is what is printed of an input whose conf has rules, or a fault: by all true answers about patterns.
abbrev pub IsPrinted : List ℕ → Bool → List ℕ → Type 0
IsPrinted input has_rules text = (ps : Patterns) → AreTrue ps → (is_ok (checked ps input) ≡ has_rules) × (check_text (checked ps input) ≡ text)

-- Of an input one text is printed at most.
abbrev pub OneText : Type 0
OneText = (input : List ℕ) (has_rules other_has : Bool) (text other : List ℕ) → IsPrinted input has_rules text → IsPrinted input other_has other → (has_rules ≡ other_has) × (text ≡ other)

-- memory ran out, which is no fault of a conf
abbrev pub is_no_memory : ConfKind → Bool
is_no_memory kind.NoMemory = true
is_no_memory other = false

abbrev pub is_out_of_memory : PolicyFault → Bool
is_out_of_memory (Splicing fault) = is_no_memory fault.kind
is_out_of_memory (Rules fault) = false
