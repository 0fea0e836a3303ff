use Rattle.rule_compile.specs.Index.{option_word}
use Rattle.rule_compile.proofs.IndexLemmas.{option_with}
use Rattle.rule_compile.proofs.option_words.OptionWords.with_word.Goals as goal

pub returns : goal.returns
returns c = λ ds h.
    let more = option_with c.args.self.index _ c.args.self.on _ ds (option_word c.args.on c.args.word.now) h.index h.on c.in_ok-index.ensures c.in_ok-push.ensures.ok in
    record { index = more.0; on = more.1 }
