use Rattle.std.proofs.Common.{refl}
use Rattle.rule_compile.proofs.IndexLemmas.{one_word_more}
use Rattle.rule_compile.specs.declared.rule.RepoWord.TheVariants as repo
use Rattle.rule_compile.proofs.word_index.WordIndex.with_all.Goals as goal

pub returns : goal.returns
returns c = λ words h. one_word_more c.args.self _ words repo.All c.in_ok-number.number h (c.in_ok-number.ensures words h) (λ _. refl) c.in_ok-push.ensures.ok refl c.in_ok-push-2.ensures.ok
