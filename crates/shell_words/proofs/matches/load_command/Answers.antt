use Rattle.std.proofs.Common.{◌≡◌, rules, codes, false}
use Rattle.std.proofs.lemmas.Result.{IfOk-weaker}
use Rattle.clap.specs.Words.{rule_of}
use Rattle.shell_words.specs.Matches.{word_rule}
use Rattle.shell_words.proofs.MatchLemmas.{arg-added, stays-local}
use Rattle.shell_words.proofs.matches.load_command.Goals as goal

pub returns-clause-app : goal.returns-clause-app
returns-clause-app c =
    let count-is : rule_of c.required-count.result ≡ word_rule (codes "count") = search rules in
    let start-is : rule_of c.required-start.result ≡ word_rule (codes "start") = search rules in
    let count-local : c.required-count.result.global ≡ false = search rules in
    let start-local : c.required-start.result.global ≡ false = search rules in
    let first = arg-added _ _ _ _ _ c.in_ok-arg.ensures count-local c.new-3.ensures.app count-is in
    IfOk-weaker c.arg-2.result _ _ (λ r adds. arg-added _ r _ _ _ adds start-local first start-is) c.arg-2.ensures

pub returns-clause-local : goal.returns-clause-local
returns-clause-local c =
    let count-local : c.required-count.result.global ≡ false = search rules in
    let start-local : c.required-start.result.global ≡ false = search rules in
    let first = stays-local _ _ _ c.in_ok-arg.ensures c.new-3.ensures.local count-local in
    IfOk-weaker c.arg-2.result _ _ (λ r adds. stays-local _ r _ adds first start-local) c.arg-2.ensures
