-- The texts of faults and warnings.
use Rattle.std.specs.Prelude.{ℕ, List, ◌++◌, codes}
use Rattle.std.specs.Fmt.{decimal}
use Rattle.conf_groups.specs.Faults as splicing
use Rattle.refex.specs.declared.faults.RefexFault.{RefexFault}
use Rattle.refex.specs.declared.faults.RefexFault.TheVariants as refex
use Rattle.rule_compile.specs.declared.fault.PolicyFault.{PolicyFault}
use Rattle.rule_compile.specs.declared.fault.PolicyFault.TheVariants.{Splicing, Rules}
use Rattle.rule_compile.specs.declared.fault.RuleFault.{RuleFault}
use Rattle.rule_compile.specs.declared.fault.RuleKind.{RuleKind}
use Rattle.rule_compile.specs.declared.fault.RuleKind.TheVariants.{RuleBeforeRepo, UnknownGroup, UnknownVref, BadRefex, TooManyRules}
use Rattle.rule_compile.specs.declared.warning.Warning.{Warning}

-- a pattern with what is wrong with it
abbrev pub pattern_text : List ℕ → RefexFault → List ℕ
pattern_text word (refex.Syntax at) = (codes "bad pattern " ++ word) ++ (codes " at " ++ decimal at)
pattern_text word (refex.TooManyPositions n) = ((codes "pattern " ++ word) ++ (codes " has " ++ decimal n)) ++ codes " positions"
pattern_text word (refex.Unsupported at) = (codes "pattern " ++ word) ++ (codes " not supported at " ++ decimal at)
pattern_text word refex.NoMemory = (codes "pattern " ++ word) ++ codes ": out of memory"

abbrev pub rule_kind_text : RuleKind → List ℕ
rule_kind_text RuleBeforeRepo = codes "rule before repo"
rule_kind_text (UnknownGroup name) = codes "unknown group " ++ name
rule_kind_text (UnknownVref word) = codes "unknown vref " ++ word
rule_kind_text (BadRefex word fault) = pattern_text word fault
rule_kind_text TooManyRules = codes "too many rules"

-- `FILE line N: `
abbrev pub place_text : List ℕ → ℕ → List ℕ
place_text file line = file ++ (codes " line " ++ (decimal line ++ codes ": "))

-- `FILE line N: KIND`
abbrev pub rule_text : RuleFault → List ℕ
rule_text fault = place_text fault.file fault.line ++ rule_kind_text fault.kind

abbrev pub policy_text : PolicyFault → List ℕ
policy_text (Splicing fault) = splicing.fault_text fault
policy_text (Rules fault) = rule_text fault

-- `FILE line N: subconf S may not set access for WORD`
abbrev pub warning_text : Warning → List ℕ
warning_text w = place_text w.file w.line ++ (codes "subconf " ++ (w.scope ++ (codes " may not set access for " ++ w.word)))
