-- Laws of the definitions.
use Rattle.std.specs.Prelude.{◌≡◌, ◌++◌, List, codes, Option, Result, Ok, Err}
use Rattle.git_object.specs.Content.{Content}
use Rattle.git_object.specs.declared.object_id.ObjectId.{ObjectId}
use Rattle.vref.specs.Root.{root_of}
use Rattle.vref.specs.Rows.{Path, row}
use Rattle.conf_groups.specs.Splicing.{HasPlace}
use Rattle.conf_groups.specs.declared.conf_file.ConfFile.{ConfFile}
use Rattle.conf_groups.specs.declared.fault.ConfFault.{ConfFault}
use Rattle.rule_compile.specs.Flat.{flat}
use Rattle.rule_compile.specs.Patterns.{Patterns}
use Rattle.rule_compile.specs.declared.fault.PolicyFault.TheVariants.{Splicing}
use Rattle.policy_swap.specs.Conf.{AreFiles, HasTooManyRows, TellsFault, TellsOfConf, conf_tree}

-- what is at a name below the folder is what is in the commit at `conf/` and the name
abbrev pub NamesBelowConf : Type 0
NamesBelowConf = (objects : List Content) (commit : ObjectId) (name : Path) → row objects (conf_tree objects commit) name ≡ row objects (root_of objects commit) (codes "conf/" ++ name)

-- two lists of the files are one
abbrev pub FilesOnce : Type 0
FilesOnce = (objects : List Content) (tree : Option ObjectId) (one other : List ConfFile) → AreFiles objects tree one → AreFiles objects tree other → one ≡ other

-- the fault of a conf that hasn't too many rows is the one to which its files come
abbrev pub FaultsAgree : Type 0
FaultsAgree = (objects : List Content) (tree : Option ObjectId) (files : List ConfFile) (e : ConfFault) → ¬ HasTooManyRows objects tree → AreFiles objects tree files
    → TellsFault objects tree e.kind e → HasPlace e.kind → (patterns : Patterns) → flat patterns files ≡ Err (Splicing e)

-- it isn't out of memory
abbrev pub IsOfConf : Result (List ConfFile) ConfFault → Type 0
IsOfConf (Ok files) = Unit {0}
IsOfConf (Err e) = HasPlace e.kind

-- but for out of memory there is one answer
abbrev pub OneAnswer : Type 0
OneAnswer = (objects : List Content) (tree : Option ObjectId) (one other : Result (List ConfFile) ConfFault)
    → TellsOfConf objects tree one → TellsOfConf objects tree other → IsOfConf one → IsOfConf other → one ≡ other
