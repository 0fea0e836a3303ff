use Rattle.std.proofs.Common.{◌∙◌}
use Rattle.rule_compile.proofs.word_index.WordIndex.cursor.Goals as goal

pub returns : goal.returns
returns c = λ words h. record {
  plain = c.numbers_of_name.ensures ∙ h.plain c.args.name.now;
  all = c.as_slice.ensures ∙ h.all;
  patterns = c.as_slice-2.ensures ∙ h.pattern_numbers;
}
