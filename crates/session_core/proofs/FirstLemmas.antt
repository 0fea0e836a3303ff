-- A first line, by its user's name and what stands behind it.
use Rattle.std.proofs.Common.{◌≡◌, ℕ, Bool, true, false, cond, List, Option, Some, None, refl, subst}
use Rattle.git_object.specs.Reader.{◌>>=◌}
use Rattle.conf_lex.specs.Names.{is_user_name}
use Rattle.session_core.specs.declared.first_packet.Service.{Service}
use Rattle.session_core.specs.declared.first_packet.FirstLine.TheVariants.{BadUser}
use Rattle.session_core.specs.FirstPacket.{asked_by, behind_user, first_line, service, user_word}

by_test : (b : Bool) (user word : List ℕ) (found : Option Service) → Some user ≡ cond b (Some word) None → asked_by user found ≡ cond b (asked_by word found) BadUser
by_test true user word found is = let same : user ≡ word = cc in subst (λ (w : List ℕ). asked_by user found ≡ asked_by w found) same refl
by_test false user word found is = absurd cc

pub first_is : (line user : List ℕ) (behind : Option (List ℕ)) (found : Option Service) → Some user ≡ cond (is_user_name (user_word line)) (Some (user_word line)) None → behind ≡ behind_user line → behind >>= service ≡ found
    → asked_by user found ≡ first_line line
unfolding first_line
first_is line user behind found named is bound =
    rw (← is, bound) (by_test (is_user_name (user_word line)) user (user_word line) found named)
