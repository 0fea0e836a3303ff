-- What is returned of the rules that a conf comes to.
use Rattle.std.specs.Prelude.{List, Option, Result, Ok, Err}
use Rattle.git_object.specs.Content.{Content}
use Rattle.git_object.specs.declared.object_id.ObjectId.{ObjectId}
use Rattle.conf_groups.specs.declared.conf_file.ConfFile.{ConfFile}
use Rattle.conf_groups.specs.declared.fault.ConfFault.{ConfFault}
use Rattle.rule_compile.specs.Answers.{Gives}
use Rattle.rule_compile.specs.Flat.{Flat, flat}
use Rattle.rule_compile.specs.Patterns.{AreTrue, Patterns}
use Rattle.rule_compile.specs.declared.fault.PolicyFault.{PolicyFault}
use Rattle.rule_compile.specs.declared.fault.PolicyFault.TheVariants.{Splicing}
use Rattle.policy_swap.specs.Conf.{TellsOfConf}

-- what the files of a conf come to, or the fault that was returned in place of them
abbrev pub flat_of : Patterns → Result (List ConfFile) ConfFault → Result Flat PolicyFault
flat_of patterns (Ok files) = flat patterns files
flat_of patterns (Err e) = Err (Splicing e)

-- what is returned is what the files come to that are returned of the conf, or their fault, unless memory ran
-- out
abbrev pub TellsOfPolicy : List Content → Option ObjectId → Result Flat PolicyFault → Type 0
TellsOfPolicy objects tree result =
    (conf : Result (List ConfFile) ConfFault) × TellsOfConf objects tree conf × ((patterns : Patterns) → AreTrue patterns → Gives result (flat_of patterns conf))
