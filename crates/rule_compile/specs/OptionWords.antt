-- What is kept of an option. It serves private functions alone.
use Rattle.std.specs.Prelude.{◌≡◌, List}
use Rattle.rule_compile.specs.Index.{OptionWord, ons_of, words_of_option}
use Rattle.rule_compile.specs.WordIndex.{Indexes}
use Rattle.rule_compile.specs.declared.option_words.OptionWords.{OptionWords}

pub record IsOption (kept : OptionWords) (ds : List OptionWord) : Type 0 where
  pub index : Indexes kept.index (words_of_option ds)
  pub on : kept.on ≡ ons_of ds
