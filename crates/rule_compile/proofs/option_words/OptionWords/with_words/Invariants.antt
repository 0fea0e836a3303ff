use Rattle.std.proofs.Common.{◌++◌, List, map, take}
use Rattle.rule_compile.specs.OptionWords.{IsOption}
use Rattle.rule_compile.specs.Index.{OptionWord, option_word}
use Rattle.rule_compile.proofs.option_words.OptionWords.with_words.Given as goal

abbrev pub invariant-loop-word : goal.invariant-loop-word
invariant-loop-word l = (ds : List OptionWord) → IsOption l.fn.self ds → IsOption l.kept (ds ++ map (option_word l.on) (take l.word-index l.words))
