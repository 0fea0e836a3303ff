-- The rules in force: what the conf in force comes to.
use Rattle.std.specs.Prelude.{◌≡◌, List, Option, None, Some, Result, Ok}
use Rattle.git_object.specs.Content.{Content}
use Rattle.git_object.specs.declared.object_id.ObjectId.{ObjectId}
use Rattle.ref_store.specs.Refs.{Name}
use Rattle.conf_groups.specs.declared.conf_file.ConfFile.{ConfFile}
use Rattle.conf_groups.specs.declared.fault.ConfFault.{ConfFault}
use Rattle.rule_compile.specs.Flat.{Flat, flat}
use Rattle.rule_compile.specs.Patterns.{Patterns}
use Rattle.rule_compile.specs.declared.fault.PolicyFault.{PolicyFault}
use Rattle.policy_swap.specs.Compile.{flat_of}
use Rattle.policy_swap.specs.Conf.{TellsOfConf, conf_tree}
use Rattle.policy_swap.specs.Laws.{IsOfConf}
use Rattle.setup_conf.specs.Setup.{setup_files}
use Rattle.hub_history.specs.State.{CommitAmong, Conf}

-- what the conf at a commit comes to: rules, or the first fault
abbrev pub ComesTo : Patterns → List Content → ObjectId → Result Flat PolicyFault → Type 0
ComesTo patterns objects commit result = (conf : Result (List ConfFile) ConfFault) × TellsOfConf objects (conf_tree objects commit) conf × IsOfConf conf × (result ≡ flat_of patterns conf)

abbrev pub ComesToBy : Patterns → Name → Option CommitAmong → Result Flat PolicyFault → Type 0
ComesToBy patterns admin None result = result ≡ flat patterns (setup_files admin)
ComesToBy patterns admin (Some pushed) result = ComesTo patterns pushed.objects pushed.commit result

-- the rules that are in force by a conf
abbrev pub AreInForce : Patterns → Conf → Flat → Type 0
AreInForce patterns conf rules = ComesToBy patterns conf.admin conf.pushed (Ok rules)
