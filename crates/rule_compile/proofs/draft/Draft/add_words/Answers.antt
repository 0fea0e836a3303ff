use Rattle.std.proofs.Common.{List, ℕ, ap, subst, Err, ◌∙◌, sym}
use Rattle.std.proofs.lemmas.List.{at_drop_more, at_drop_all}
use Rattle.rule_compile.specs.Answers.{Steps, state_of}
use Rattle.rule_compile.specs.Flat.{with_texts, with_words}
use Rattle.rule_compile.proofs.StepLemmas.{goes_then, fails_then}
use Rattle.rule_compile.proofs.draft.Draft.add_words.Goals as goal

pub loop-word-preserved : goal.loop-word-preserved
loop-word-preserved c = λ ps ok.
    let step = c.loop-word.invariant ps ok ∙ at_drop_more (λ (xs : List (List ℕ)). with_words ps c.args.conf.now.placed.now c.args.line.now xs (state_of c.loop-word.draft)) c.args.words.now c.loop-word.word-index c.word-item.result c.loop-word-test.true in
    let same = c.as_slice.ensures ∙ c.in_ok-texts.ensures in
    goes_then _ _ _ _ (rw (← c.word-item.is) at step)
    (ap (λ (ts : List (List ℕ)). with_texts ps c.args.conf.now.placed.now c.args.line.now ts (state_of c.loop-word.draft)) (sym same) ∙ c.in-Ok.ensures ps ok)

pub returns : goal.returns
returns c = λ ps ok. c.loop-word.invariant ps ok ∙ at_drop_all (λ (xs : List (List ℕ)). with_words ps c.args.conf.now.placed.now c.args.line.now xs (state_of c.loop-word.draft)) c.args.words.now c.loop-word.word-index c.loop-word-test.false

pub returns-in-Err : goal.returns-in-Err
returns-in-Err c = λ ps ok.
    let step = c.loop-word.invariant ps ok ∙ at_drop_more (λ (xs : List (List ℕ)). with_words ps c.args.conf.now.placed.now c.args.line.now xs (state_of c.loop-word.draft)) c.args.words.now c.loop-word.word-index c.word-item.result c.loop-word-test.true in
    let same = c.as_slice.ensures ∙ c.in_ok-texts.ensures in
    fails_then _ _ _ _ (rw (← c.word-item.is) at step)
    (subst (λ (ts : List (List ℕ)). Steps (Err c.in-Err.stop) (with_texts ps c.args.conf.now.placed.now c.args.line.now ts (state_of c.loop-word.draft))) same (c.in-Err.ensures ps ok))
