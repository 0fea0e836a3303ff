use Rattle.std.proofs.Common.{◌∙◌, Some, refl, ap}
use Rattle.pktline_core.specs.MemoryLinks.{MemoryState, memory_state}
use Rattle.shell_program.specs.Script.{reply_text}
use Rattle.shell_program.proofs.ScriptLemmas.{grows_on, serves, session_lacks, only_memory, serves_unsaid}
use Rattle.shell_program.proofs.script.serve.Goals as goal

pub returns-in_default-clause-err : goal.returns-in_default-clause-err
returns-in_default-clause-err g c =
    let left = ap (λ (m : MemoryState). Some m.left) c.new-link.ensures in
    let may = ap (λ (m : MemoryState). (memory_state m).may_fail) c.new-link.ensures in
    let cannot = rw (c.new.ensures.items, c.new-2.ensures.items) at may in
    let failed = c.in_default.ensures.none in
    session_lacks _ _ _ _ c.args.body.items left c.requires c.session-end.ensures.grows (only_memory _ _ _ _ _ c.session-end.result failed.0 cannot c.session-end.ensures.causes failed.1 c.session-end.ensures.turn)

pub returns-then-is_broken-clause-err : goal.returns-then-is_broken-clause-err
returns-then-is_broken-clause-err g c =
    let ends = rw c.in-Some.ensures.some.1 at c.session-end.ensures.turn in
    let left = ap (λ (m : MemoryState). Some m.left) c.new-link.ensures in
    let written = ap (λ (m : MemoryState). Some m.written) c.new-link.ensures in
    (_, serves _ _ _ _ c.args.number c.args.body.items _ c.in-Some.word.now _ c.session-end.result left written refl c.requires c.session-end.ensures.grows ends c.in-Some.ensures.some.0 refl)

pub returns-in-Ok-clause-ok : goal.returns-in-Ok-clause-ok
returns-in-Ok-clause-ok g c =
    let ends = rw c.in-Some.ensures.some.1 at c.session-end.ensures.turn in
    let left = ap (λ (m : MemoryState). Some m.left) c.new-link.ensures in
    let written = ap (λ (m : MemoryState). Some m.written) c.new-link.ensures in
    serves _ _ _ _ c.args.number c.args.body.items _ c.in-Some.word.now c.in-Ok.text.items c.session-end.result left written refl c.requires c.session-end.ensures.grows ends c.in-Some.ensures.some.0
    (c.in-Ok.ensures ∙ ap (reply_text c.args.number c.in-Some.word.now) c.written.ensures)

pub returns-clause-err : goal.returns-clause-err
returns-clause-err g c =
    let ends = rw c.in-Some.ensures.some.1 at c.session-end.ensures.turn in
    let left = ap (λ (m : MemoryState). Some m.left) c.new-link.ensures in
    let written = ap (λ (m : MemoryState). Some m.written) c.new-link.ensures in
    let served = serves _ _ _ _ c.args.number c.args.body.items _ c.in-Some.word.now _ c.session-end.result left written refl c.requires c.session-end.ensures.grows ends c.in-Some.ensures.some.0 refl in
    serves_unsaid _ _ c.args.number c.args.body.items _ (grows_on _ _ c.session-end.ensures.grows) served
