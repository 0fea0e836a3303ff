use Rattle.std.proofs.Common.{◌∙◌, sym, refl, None, Some}
use Rattle.session_core.proofs.FirstLemmas.{first_is}
use Rattle.session_core.proofs.first_packet.first_line.Goals as goal

pub returns-in_default-behind_user : goal.returns-in_default-behind_user
returns-in_default-behind_user c =
    first_is c.args.line.now c.in-Some.user None None (rw c.user_word.ensures at (sym c.in-Some.is ∙ c.in_ok-user.ensures)) (rw c.in_default-behind_user.is at c.behind_user.ensures) refl

pub returns-in_default-2 : goal.returns-in_default-2
returns-in_default-2 c =
    first_is c.args.line.now c.in-Some.user (Some c.in-Some-behind_user.words.now) None (rw c.user_word.ensures at (sym c.in-Some.is ∙ c.in_ok-user.ensures)) (rw c.in-Some-behind_user.is at c.behind_user.ensures)
    (sym c.in_ok-service.ensures ∙ c.in_default-2.is)

pub returns : goal.returns
returns c =
    first_is c.args.line.now c.in-Some.user (Some c.in-Some-behind_user.words.now) (Some c.in-Some-2.service) (rw c.user_word.ensures at (sym c.in-Some.is ∙ c.in_ok-user.ensures)) (rw c.in-Some-behind_user.is at c.behind_user.ensures)
    (sym c.in_ok-service.ensures ∙ c.in-Some-2.is)
