use Rattle.rule_compile.proofs.PatternLemmas.{gives_fault, no_fault}
use Rattle.std.proofs.Common.{◌≡◌, Err, refl, ap, sym, subst, ◌∙◌, List, ℕ}
use Rattle.refex.specs.Refex.{IsRefused}
use Rattle.refex.specs.declared.items.Step.{Step}
use Rattle.rule_compile.proofs.patterns.read_pattern.Goals as goal

pub returns-in-Ok-clause-fault : goal.returns-in-Ok-clause-fault
returns-in-Ok-clause-fault c = λ ps ok. ap (λ (t : List ℕ). ps.fault c.args.hole t) (sym c.bytes.ensures) ∙ no_fault ps ok _ _ _ c.in-Ok.ensures.pattern

pub returns-in-Err-clause-fault : goal.returns-in-Err-clause-fault
returns-in-Err-clause-fault c = λ ps ok. gives_fault (List Step) ps ok c.args.hole c.args.text.now c.in-Err.fault _
    (λ ample. subst (λ (t : List ℕ). IsRefused c.args.hole t c.in-Err.fault) c.bytes.ensures ((c.in-Err.ensures.err (λ e. ample (let same : Err c.in-Err.fault ≡ Err _ = e in cc)) c.in-Err.fault).0 refl))
    c.stop_by.ensures
