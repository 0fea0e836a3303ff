-- Rows of frames, worked out.
use Rattle.std.proofs.Common.{◌≡◌, [], refl, arith, codes}
use Rattle.std.proofs.lemmas.Fmt.{decimal_digit}
use Rattle.script_frames.specs.Frames.{head_text, frame_text}

a_frame : frame_text (codes "session ") (codes "abcde") ≡ codes "session 5\nabcde\n"
unfolding head_text frame_text
a_frame = rw (decimal_digit 5 (omega arith)) refl

an_empty_frame : frame_text (codes "session ") [] ≡ codes "session 0\n\n"
unfolding head_text frame_text
an_empty_frame = rw (decimal_digit 0 (omega arith)) refl

a_conf : frame_text (codes "conf ") (codes "abcde") ≡ codes "conf 5\nabcde\n"
unfolding head_text frame_text
a_conf = rw (decimal_digit 5 (omega arith)) refl
