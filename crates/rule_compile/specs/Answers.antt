-- How a call's result is compared with what is due. Out of memory may come at any time.
use Rattle.std.specs.Prelude.{◌≡◌, ℕ, List, [], Option, Some, None, Result, Ok, Err}
use Rattle.conf_lex.specs.declared.fault.LexFault.TheVariants as lex
use Rattle.conf_groups.specs.declared.fault.ConfFault.{ConfFault}
use Rattle.conf_groups.specs.declared.placed.PlacedLine.{PlacedLine}
use Rattle.conf_groups.specs.declared.fault.ConfKind.{ConfKind}
use Rattle.conf_groups.specs.declared.fault.ConfKind.TheVariants as kind
use Rattle.refex.specs.declared.faults.RefexFault.{RefexFault}
use Rattle.refex.specs.declared.faults.RefexFault.TheVariants as refex
use Rattle.rule_compile.specs.Flat.{Flat, State, Step}
use Rattle.rule_compile.specs.Flat as flat
use Rattle.rule_compile.specs.declared.draft.Draft.{Draft}
use Rattle.rule_compile.specs.declared.draft.Parts.{Parts}
use Rattle.rule_compile.specs.declared.rule.Rule.{Rule}
use Rattle.rule_compile.specs.declared.fault.PolicyFault.{PolicyFault}
use Rattle.rule_compile.specs.declared.fault.PolicyFault.TheVariants.{Splicing, Rules}
use Rattle.rule_compile.specs.declared.fault.RuleKind.TheVariants.{BadRefex}
use Rattle.rule_compile.specs.declared.stop.Stop.{Stop}
use Rattle.rule_compile.specs.declared.stop.Stop.TheVariants.{OutOfMemory, Refused}

-- what a draft holds
abbrev pub flat_of : Draft → Flat
flat_of d = record { rules = d.rules; warnings = d.warnings; options = d.options; plain = d.plain }

abbrev pub state_of : Draft → State
state_of d = record { block = d.block; flat = flat_of d; texts = d.patterns }

-- a fault that a text has
abbrev pub IsOfText : RefexFault → Type 0
IsOfText refex.NoMemory = ⊥
IsOfText f = Unit {0}

-- a line is refused by such a fault, or memory ran out
abbrev pub StopsBy : RefexFault → List ℕ → Stop → Type 0
StopsBy f text (Refused k) = (k ≡ BadRefex text f) × IsOfText f
StopsBy f text OutOfMemory = Unit {0}

-- a value, or why a line is refused, is what is due
abbrev pub GivesStep : {A : Type 0} → Result A Stop → Step A → Type 0
GivesStep (Ok x) due = due ≡ Ok x
GivesStep (Err (Refused k)) due = due ≡ Err k
GivesStep (Err OutOfMemory) due = Unit {0}

-- the same of a draft
abbrev pub Steps : Result Draft Stop → Step State → Type 0
Steps (Ok d) due = due ≡ Ok (state_of d)
Steps (Err (Refused k)) due = due ≡ Err k
Steps (Err OutOfMemory) due = Unit {0}

-- the same of rules that are left
abbrev pub Pushes : {X : Type 0} → Result X Stop → List Rule → Step (List Rule) → Type 0
Pushes (Ok x) rules due = due ≡ Ok rules
Pushes (Err (Refused k)) rules due = due ≡ Err k
Pushes (Err OutOfMemory) rules due = Unit {0}

abbrev pub draft_of : Parts → flat.Draft
draft_of p = record { repo = p.repo.now; refex = p.refex.now; user = p.user.now }

-- the fault of splicing that is due; that of memory has no place
abbrev pub GivesSplicing : ConfKind → ConfFault → Result Flat PolicyFault → Type 0
GivesSplicing kind.NoMemory e due = (e.file ≡ []) × (e.line ≡ 0)
GivesSplicing (kind.Lex lex.NoMemory) e due = ⊥
GivesSplicing k e due = due ≡ Err (Splicing e)

abbrev pub GivesFault : PolicyFault → Result Flat PolicyFault → Type 0
GivesFault (Splicing e) due = GivesSplicing e.kind e due
GivesFault (Rules e) due = due ≡ Err (Rules e)

-- The flat list, or the fault, is the one that is due, unless memory ran out.
abbrev pub Gives : Result Flat PolicyFault → Result Flat PolicyFault → Type 0
Gives (Ok f) due = due ≡ Ok f
Gives (Err e) due = GivesFault e due

-- a pattern is given where its text is one, and else the fault of the text
abbrev pub GivesPattern : {X : Type 0} → Result X Stop → Option RefexFault → List ℕ → Type 0
GivesPattern (Ok x) due text = due ≡ None
GivesPattern (Err (Refused k)) due text = (e : RefexFault) × (due ≡ Some e) × (k ≡ BadRefex text e)
GivesPattern (Err OutOfMemory) due text = Unit {0}

-- the same of what is left when all lines are read
abbrev pub GivesDraft : Result Draft PolicyFault → Result Flat PolicyFault → Type 0
GivesDraft (Ok d) due = due ≡ Ok (flat_of d)
GivesDraft (Err e) due = GivesFault e due

-- a fault of rules is the one that is due; else memory ran out
abbrev pub IsNoMemory : PolicyFault → Type 0
IsNoMemory (Splicing e) = (e.kind ≡ kind.NoMemory) × (e.file ≡ []) × (e.line ≡ 0)
IsNoMemory (Rules e) = ⊥

abbrev pub FailsBy : PolicyFault → Result State PolicyFault → Type 0
FailsBy (Rules e) due = due ≡ Err (Rules e)
FailsBy (Splicing e) due = IsNoMemory (Splicing e)

abbrev pub PlacedSteps : Result Draft PolicyFault → Result State PolicyFault → Type 0
PlacedSteps (Ok d) due = due ≡ Ok (state_of d)
PlacedSteps (Err e) due = FailsBy e due

-- what a line is refused by, at its place
abbrev pub StopsAt : PlacedLine → Stop → PolicyFault → Type 0
StopsAt l (Refused k) (Rules e) = Rules e ≡ flat.fault_at l k
StopsAt l OutOfMemory (Rules e) = ⊥
StopsAt l stop (Splicing e) = IsNoMemory (Splicing e)
