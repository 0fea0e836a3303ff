use Rattle.std.proofs.lemmas.Result.{IfOk-weaker}
use Rattle.shell_words.proofs.MatchLemmas.{arg-added, stays-local}
use Rattle.shell_words.proofs.matches.admin_command.Goals as goal

pub returns-clause-app : goal.returns-clause-app
returns-clause-app c = IfOk-weaker c.arg.result _ _ (λ r adds. arg-added _ r _ _ _ adds c.option.ensures.local c.new.ensures.app c.option.ensures.rule) c.arg.ensures

pub returns-clause-local : goal.returns-clause-local
returns-clause-local c = IfOk-weaker c.arg.result _ _ (λ r adds. stays-local _ r _ adds c.new.ensures.local c.option.ensures.local) c.arg.ensures
