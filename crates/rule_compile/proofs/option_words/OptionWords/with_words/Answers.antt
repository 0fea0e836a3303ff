use Rattle.std.proofs.Common.{◌++◌, List, arith, map, subst}
use Rattle.std.proofs.lemmas.List.{take_all}
use Rattle.rule_compile.specs.declared.rule.RepoWord.{RepoWord}
use Rattle.rule_compile.specs.OptionWords.{IsOption}
use Rattle.rule_compile.specs.Index.{OptionWord, option_word}
use Rattle.rule_compile.proofs.IndexLemmas.{one_more_taken}
use Rattle.rule_compile.proofs.option_words.OptionWords.with_words.Goals as goal

pub loop-word-preserved : goal.loop-word-preserved
loop-word-preserved c = λ ds h.
    subst (λ (all : List OptionWord). IsOption c.in_ok-kept.kept all)
    (one_more_taken (option_word c.args.on) ds c.args.words.now c.loop-word.word-index c.word-item.result c.loop-word-test.true c.word-item.is)
    (c.in_ok-kept.ensures _ (c.loop-word.invariant ds h))

pub returns : goal.returns
returns c = λ ds h.
    subst (λ (words : List RepoWord). IsOption c.loop-word.kept (ds ++ map (option_word c.args.on) words))
    (take_all c.loop-word.word-index c.args.words.now (omega (arith, c.loop-word-test.false))) (c.loop-word.invariant ds h)
