use Rattle.std.proofs.Common.{refl}
use Rattle.rule_compile.proofs.IndexLemmas.{one_word_more}
use Rattle.rule_compile.specs.declared.rule.RepoWord.TheVariants as repo
use Rattle.rule_compile.proofs.word_index.WordIndex.with_name.Goals as goal

pub returns : goal.returns
returns c = λ words h. one_word_more c.args.self _ words (repo.Plain c.args.name.now) c.in_ok-number.number h (c.in_ok-number.ensures words h) c.in_ok-index.ensures refl refl c.in_ok-push.ensures.ok
