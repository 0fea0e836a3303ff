use Rattle.std.proofs.Common.{◌≡◌, ◌++◌, ◌∙◌, sym, ap, codes, List, ℕ}
use Rattle.access_check.specs.Verdicts.{holds_vref}
use Rattle.access_check.specs.declared.verdicts.Vref.TheVariants.{MergeCheck}
use Rattle.update_check.specs.Check.{asked_by}
use Rattle.update_check.specs.Rules.{merge_check_name, said_of_virtual}
use Rattle.update_check.proofs.CheckLemmas.{asked_merge}
use Rattle.update_check.proofs.check.UpdateCheck.refusal_of_merge.Goals as goal

pub returns : goal.returns
returns c = λ ps ok.
    let rules = c.args.self.now.flat.rules in
    let a = asked_by ps c.args.self.now in
    let named : c.in_ok-joined.field-0 ≡ merge_check_name c.args.name.now = c.in_ok-joined.ensures ∙ ap (λ (ref : List ℕ). codes "VREF/MERGE-CHECK/" ++ ref) c.bytes.ensures in
    asked_merge (holds_vref ps rules a MergeCheck) c.args.brings_merge (said_of_virtual ps rules a c.args.letter (merge_check_name c.args.name.now)) c.refusal_of_virtual.result
    (sym (c.asks.ensures ps ok) ∙ c.if-not-asks.false) c.if-not-brings_merge.false
    (c.refusal_of_virtual.ensures ps ok ∙ ap (λ (name : List ℕ). said_of_virtual ps rules a c.args.letter name) named)
