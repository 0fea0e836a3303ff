use Rattle.std.proofs.Common.{List, ℕ, ◌∙◌}
use Rattle.std.proofs.lemmas.List.{at_drop_more, at_drop_all}
use Rattle.rule_compile.specs.Answers.{state_of}
use Rattle.rule_compile.specs.Flat.{with_texts}
use Rattle.rule_compile.proofs.StepLemmas.{goes_then}
use Rattle.rule_compile.proofs.draft.Draft.add_texts.Goals as goal

pub loop-text-preserved : goal.loop-text-preserved
loop-text-preserved c = λ ps ok.
    let step = c.loop-text.invariant ps ok ∙ at_drop_more (λ (xs : List (List ℕ)). with_texts ps c.args.conf.now.placed.now c.args.line.now xs (state_of c.loop-text.draft)) c.args.texts.now c.loop-text.text-index c.text-item.result c.loop-text-test.true in
    goes_then _ _ _ _ (rw (← c.text-item.is) at step) (c.in_ok-draft.ensures ps ok)

pub returns : goal.returns
returns c = λ ps ok. c.loop-text.invariant ps ok ∙ at_drop_all (λ (xs : List (List ℕ)). with_texts ps c.args.conf.now.placed.now c.args.line.now xs (state_of c.loop-text.draft)) c.args.texts.now c.loop-text.text-index c.loop-text-test.false
