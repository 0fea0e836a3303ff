use Rattle.std.proofs.Common.{◌≡◌, Err, rules}
use Rattle.shell_program.specs.declared.script.ScriptFault.TheVariants.{NoMemory}
use Rattle.shell_program.proofs.ScriptLemmas.{advances_one, session_is_word, untold}
use Rattle.shell_program.proofs.script.advance.Goals as goal

pub returns-in_ok-write_text-in-Ok-Some-clause-some : goal.returns-in_ok-write_text-in-Ok-Some-clause-some
returns-in_ok-write_text-in-Ok-Some-clause-some g c =
    let wrote = rw c.deref.ensures.value at c.in_ok-write_text-in-Ok-Some.ensures.ok in
    let frame = rw c.in-Ok-Some.field-0-is at c.in-Ok-Some.ensures.some in
    advances_one _ _ _ _ _ _ _ _ _ _ frame c.in_ok-text-in-Ok-Some.ensures.ok wrote

pub returns-in_err-text-in-Err-Bad-clause-err : goal.returns-in_err-text-in-Err-Bad-clause-err
returns-in_err-text-in-Err-Bad-clause-err g c =
    let answer : c.from_residual-in_err-text-in-Err-Bad.result ≡ Err NoMemory = search rules in
    let bad = rw c.in-Err-Bad.field-0-is at c.in-Err-Bad.ensures.err in
    rw answer (untold _ _ _ _ c.args.number c.args.offset bad)

pub read_frame-requires : goal.read_frame-requires
read_frame-requires g c = session_is_word
