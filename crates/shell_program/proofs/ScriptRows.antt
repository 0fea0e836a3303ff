-- Rows of a script, worked out.
use Rattle.std.proofs.Common.{◌≡◌, [], ◌∷◌, refl, arith, codes}
use Rattle.std.proofs.lemmas.Fmt.{decimal_digit}
use Rattle.session_core.specs.declared.end.SessionEnd.TheVariants.{Served}
use Rattle.shell_program.specs.Script.{end_word, reply_text, fault_text, bad_offset, last_line}

a_reply : reply_text 1 (end_word Served) (codes "0000") ≡ codes "session 1 served 4\n0000\n"
unfolding reply_text
a_reply = rw (decimal_digit 1 (omega arith), decimal_digit 4 (omega arith)) refl

a_fault : fault_text 0 ≡ codes "bad script at 0\n"
unfolding fault_text
a_fault = rw (decimal_digit 0 (omega arith)) refl

nothing_follows : last_line (bad_offset (codes "abcde" ∷ []) []) ≡ []
nothing_follows = refl
