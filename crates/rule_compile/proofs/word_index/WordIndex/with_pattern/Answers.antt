use Rattle.std.proofs.Common.{refl}
use Rattle.rule_compile.proofs.IndexLemmas.{one_word_more}
use Rattle.rule_compile.specs.declared.rule.RepoWord.TheVariants as repo
use Rattle.rule_compile.proofs.word_index.WordIndex.with_pattern.Goals as goal

pub returns : goal.returns
returns c = λ words h. one_word_more c.args.self _ words (repo.Pattern c.args.pattern) c.in_ok-number.number h (c.in_ok-number.ensures words h) (λ _. refl) refl c.in_ok-push.ensures.ok c.in_ok-push-2.ensures.ok
