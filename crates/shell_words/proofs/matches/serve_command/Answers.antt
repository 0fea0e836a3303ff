use Rattle.std.proofs.lemmas.Result.{IfOk-weaker}
use Rattle.shell_words.proofs.MatchLemmas.{arg-added, stays-local}
use Rattle.shell_words.proofs.matches.serve_command.Goals as goal

pub returns-clause-app : goal.returns-clause-app
returns-clause-app c =
    let first = arg-added _ _ _ _ _ c.in_ok-arg.ensures c.option.ensures.local c.in_ok-admin_command.ensures.app c.option.ensures.rule in
    IfOk-weaker c.arg-2.result _ _ (λ r adds. arg-added _ r _ _ _ adds c.option-2.ensures.local first c.option-2.ensures.rule) c.arg-2.ensures

pub returns-clause-local : goal.returns-clause-local
returns-clause-local c =
    let first = stays-local _ _ _ c.in_ok-arg.ensures c.in_ok-admin_command.ensures.local c.option.ensures.local in
    IfOk-weaker c.arg-2.result _ _ (λ r adds. stays-local _ r _ adds first c.option-2.ensures.local) c.arg-2.ensures
