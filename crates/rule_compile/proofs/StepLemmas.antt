-- Lines one after another.
use Rattle.std.proofs.Common.{◌≡◌, Ok, Err, Result, ap, subst, sym, ◌∙◌}
use Rattle.rule_compile.specs.Answers.{FailsBy, GivesFault, GivesSplicing, Steps}
use Rattle.conf_groups.specs.declared.fault.ConfKind.{ConfKind}
use Rattle.rule_compile.specs.Flat.{Flat, State, Step, ◌>>=◌, and_then}
use Rattle.rule_compile.specs.declared.fault.PolicyFault.{PolicyFault}
use Rattle.rule_compile.specs.declared.fault.PolicyFault.TheVariants.{Splicing, Rules}
use Rattle.rule_compile.specs.declared.stop.Stop.{Stop}
use Rattle.rule_compile.specs.declared.stop.Stop.TheVariants.{OutOfMemory, Refused}

-- where the first is done, the next is due
pub goes_then : (first due : Step State) (s : State) (next : State → Step State) → due ≡ (first >>= next) → first ≡ Ok s → due ≡ next s
goes_then first due s next h f = h ∙ ap (λ (r : Step State). r >>= next) f

-- where it isn't, its fault is due
pub fails_then : (stop : Stop) (first due : Step State) (next : State → Step State) → due ≡ (first >>= next) → Steps (Err stop) first → Steps (Err stop) due
fails_then (Refused k) first due next h f = h ∙ ap (λ (r : Step State). r >>= next) f
fails_then OutOfMemory first due next h f = tt

pub goes_on : (first : Result State PolicyFault) (due : Result Flat PolicyFault) (s : State) (next : State → Result Flat PolicyFault) → due ≡ and_then first next → first ≡ Ok s → due ≡ next s
goes_on first due s next h f = h ∙ ap (λ (r : Result State PolicyFault). and_then r next) f

pub stops_by : (e : PolicyFault) (first : Result State PolicyFault) (due : Result Flat PolicyFault) (next : State → Result Flat PolicyFault) → due ≡ and_then first next → FailsBy e first → GivesFault e due
stops_by (Rules e) first due next h f = h ∙ ap (λ (r : Result State PolicyFault). and_then r next) f
stops_by (Splicing e) first due next h f = subst (λ (k : ConfKind). GivesSplicing k e due) (sym f.0) (f.1, f.2)
