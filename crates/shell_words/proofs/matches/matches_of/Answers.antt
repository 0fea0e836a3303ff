use Rattle.std.proofs.Common.{◌∙◌, ap, map, string_bytes, subst}
use Rattle.std.specs.Prelude.{IfOk}
use Rattle.std.proofs.lemmas.Result.{IfErr-weaker}
use Rattle.clap.specs.Words.{App, HasMatchesOf, takes}
use Rattle.shell_words.proofs.matches.matches_of.Goals as goal

pub returns-clause-ok : goal.returns-clause-ok
returns-clause-ok c = subst (λ (a : App). IfOk c.try_get_matches_from.result (HasMatchesOf a (map string_bytes c.args.words.now))) c.in_ok-program.ensures c.try_get_matches_from.ensures.matches

pub returns-clause-err : goal.returns-clause-err
returns-clause-err c = IfErr-weaker c.try_get_matches_from.result _ _ (λ e only. only (ap (λ (a : App). takes a (map string_bytes c.args.words.now)) c.in_ok-program.ensures ∙ c.requires)) c.try_get_matches_from.ensures.passes
