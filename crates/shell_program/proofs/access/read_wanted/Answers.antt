use Rattle.std.proofs.Common.{refl}
use Rattle.shell_program.proofs.AccessLemmas.{ended_here}
use Rattle.shell_program.proofs.access.read_wanted.Goals as goal

pub returns-in-Ok-None-clause-err : goal.returns-in-Ok-None-clause-err
returns-in-Ok-None-clause-err g c =
    let ended = rw c.in-Ok-None.field-0-is at c.in-Ok-None.ensures.none in
    (refl, ended_here c.args.word.now c.requires _ _ ended.0 ended.1)
