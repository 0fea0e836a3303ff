use Rattle.std.proofs.Common.{sym}
use Rattle.refex.specs.declared.faults.Hole.TheVariants.{User}
use Rattle.rule_compile.proofs.PatternLemmas.{no_fault}
use Rattle.rule_compile.proofs.patterns.PatternTable.refex.Goals as goal

pub returns-in-Some-clause-fault : goal.returns-in-Some-clause-fault
returns-in-Some-clause-fault c = λ ps ok.
    let same = c.self.invariant.1 c.args.text.now c.in-Some.refex.now (sym c.in-Some.ensures) in
    let is = c.text-text.ensures.refex in
    rw same at (no_fault ps ok User c.in-Some.refex.now is.0 is.1)
