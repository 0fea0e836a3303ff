use Rattle.std.proofs.Common.{refl, sym, ◌∙◌, ap}
use Rattle.std.specs.Option.{option_copied}
use Rattle.rule_compile.specs.Index.{word_of_option, pattern_text, words_of_option}
use Rattle.rule_compile.proofs.IndexLemmas.{kept_at, other_covers, pattern_covers_word}
use Rattle.rule_compile.proofs.option_words.OptionWords.covers_at.Goals as goal

pub returns-in-Some : goal.returns-in-Some
returns-in-Some c = λ ps ok ds h d at_place may.
    let text = c.pattern.ensures (pattern_text d.word) (kept_at pattern_text _ (words_of_option ds) c.args.place d.word h.index.patterns (kept_at word_of_option _ ds c.args.place d refl at_place)) in
    c.covers.ensures ps ok ∙ pattern_covers_word ps d.word c.in-Some.pattern.now c.args.repo.now (option_copied c.args.creator) (sym (ap option_copied c.in-Some.is) ∙ text)

pub returns-in-None : goal.returns-in-None
returns-in-None c = λ ps ok ds h d at_place may.
    let text = c.pattern.ensures (pattern_text d.word) (kept_at pattern_text _ (words_of_option ds) c.args.place d.word h.index.patterns (kept_at word_of_option _ ds c.args.place d refl at_place)) in
    other_covers ps d.word c.args.repo.now (option_copied c.args.creator) (sym (ap option_copied c.in-None.is) ∙ text) may
