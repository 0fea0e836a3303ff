use Rattle.std.proofs.Common.{◌≡◌, ◌∙◌, sym, subst, Bool, true}
use Rattle.access_check.specs.Verdicts.{holds_vref}
use Rattle.access_check.specs.declared.verdicts.Vref.TheVariants.{Name}
use Rattle.update_check.specs.Check.{asked_by}
use Rattle.update_check.specs.Rules.{SaysIf}
use Rattle.update_check.proofs.CheckLemmas.{if_ok}
use Rattle.update_check.proofs.check.UpdateCheck.refusal_of_paths.Goals as goal

pub returns-clause-says : goal.returns-clause-says
returns-clause-says c =
    if_ok c.refusal_of_asked.result c.refusal_of_asked.ensures.says (λ said is ps ok.
    let rules = c.args.self.now.flat.rules in
    let a = asked_by ps c.args.self.now in
    let holds : true ≡ holds_vref ps rules a Name = sym c.if-not-asks.false ∙ c.asks.ensures ps ok in
    subst (λ (b : Bool). SaysIf ps rules a b c.args.self.now.objects c.args.letter c.args.change.now said) holds (is ps ok))
