use Rattle.shell_words.proofs.SpellingLemmas.{spelled-read}
use Rattle.shell_words.proofs.ReadingLemmas.{read-spelled}
use Rattle.shell_words.proofs.laws.hold_laws.Goals as goal

pub returns-clause-spelled : goal.returns-clause-spelled
returns-clause-spelled c = spelled-read

pub returns-clause-read : goal.returns-clause-read
returns-clause-read c = read-spelled
