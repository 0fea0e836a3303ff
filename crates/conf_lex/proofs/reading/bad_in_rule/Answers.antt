use Rattle.std.proofs.Common.{◌∙◌, ◌+◌, length, map, ap, sym}
use Rattle.std.proofs.lemmas.List.{length-map}
use Rattle.conf_lex.proofs.PlaceLemmas.{bad_user_of_rule}
use Rattle.conf_lex.proofs.reading.bad_in_rule.Goals as goal

pub returns-in-None : goal.returns-in-None
returns-in-None c = c.bad_user.ensures ∙ bad_user_of_rule c.args.perm.now (map (λ w. w.now) c.args.refexes.now) (map (λ w. w.now) c.args.users.now) _ _
    (ap (λ n. length c.args.perm.now + 1 + n + 2) c.place_after.ensures) (sym (length-map c.args.users.now (λ w. w.now))) (sym c.first_bad.ensures ∙ c.in-None.is)
