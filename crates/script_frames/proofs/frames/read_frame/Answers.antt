use Rattle.std.proofs.Common.{◌≡◌, Err, length, arith, rules}
use Rattle.script_frames.specs.ReadingFrames.{HasNoSize, IsSizeIn}
use Rattle.pktline_core.proofs.LinkLemmas.{later_more}
use Rattle.script_frames.proofs.ReadingLemmas.{line_stops, no_size, body_stops, closed, open_ended, cut_off, byte_stops}
use Rattle.script_frames.proofs.frames.read_frame.Goals as goal

pub returns-in_err-line-clause-err : goal.returns-in_err-line-clause-err
returns-in_err-line-clause-err g c =
    let answer : c.from_residual.result ≡ Err c.in_err-line.field-0.0 = search rules in
    rw answer (line_stops c.args.word.now c.requires _ _ c.in_err-line.field-0.0 c.in_err-line.ensures.err)

pub returns-in_default-size_in-clause-err : goal.returns-in_default-size_in-clause-err
returns-in_default-size_in-clause-err g c =
    let line = rw c.in-Some.is at c.in_ok-line.ensures.some in
    let none : HasNoSize c.args.word.now c.in-Some.line.items = rw c.as_slice.ensures.value at c.in_default-size_in.ensures.none in
    no_size c.args.word.now c.requires _ _ c.in-Some.line.items line.0 line.1 line.2 none

pub returns-in_err-body-clause-err : goal.returns-in_err-body-clause-err
returns-in_err-body-clause-err g c =
    let answer : c.from_residual-in_err-body.result ≡ Err c.in_err-body.field-0.0 = search rules in
    let line = rw c.in-Some.is at c.in_ok-line.ensures.some in
    let size : IsSizeIn c.args.word.now c.in-Some.line.items c.in-Some-size_in.size = rw c.as_slice.ensures.value at c.in-Some-size_in.ensures.some in
    rw answer (body_stops c.args.word.now c.requires _ _ c.in-Some.line.items line.0 c.in-Some-size_in.size size _ c.in_err-body.field-0.0 c.read_line.ensures.later c.in_err-body.ensures.err)

pub returns-in-Some-eq10-clause-some : goal.returns-in-Some-eq10-clause-some
returns-in-Some-eq10-clause-some g c =
    let line = rw c.in-Some.is at c.in_ok-line.ensures.some in
    let size : IsSizeIn c.args.word.now c.in-Some.line.items c.in-Some-size_in.size = rw c.as_slice.ensures.value at c.in-Some-size_in.ensures.some in
    let feed : c.in-Some-eq10.field-0 ≡ 10 = omega arith in
    let byte = rw c.in-Some-eq10.is at c.in_ok-take_byte.ensures.ok in
    let last = rw feed at byte in
    let whole = closed c.args.word.now c.requires _ _ c.in-Some.line.items line.0 c.in-Some-size_in.size size _ _ c.in_ok-body.body.items c.in_ok-body.ensures.ok last in
    let counted : c.len.result ≡ length c.in-Some.line.items = search rules in
    let sized : c.from.result ≡ c.in-Some-size_in.size = search rules in
    rw (counted, sized) whole

pub returns-in-Some-2-clause-err : goal.returns-in-Some-2-clause-err
returns-in-Some-2-clause-err g c =
    let line = rw c.in-Some.is at c.in_ok-line.ensures.some in
    let size : IsSizeIn c.args.word.now c.in-Some.line.items c.in-Some-size_in.size = rw c.as_slice.ensures.value at c.in-Some-size_in.ensures.some in
    let last = rw c.in-Some-2.is at c.in_ok-take_byte.ensures.ok in
    open_ended c.args.word.now c.requires _ _ c.in-Some.line.items line.0 c.in-Some-size_in.size size _ _ c.in_ok-body.body.items c.in_ok-body.ensures.ok _ c.in-Some-2.field-0-test.1 last

pub returns-in-None-clause-err : goal.returns-in-None-clause-err
returns-in-None-clause-err g c =
    let line = rw c.in-Some.is at c.in_ok-line.ensures.some in
    let size : IsSizeIn c.args.word.now c.in-Some.line.items c.in-Some-size_in.size = rw c.as_slice.ensures.value at c.in-Some-size_in.ensures.some in
    let last = rw c.in-None.is at c.in_ok-take_byte.ensures.ok in
    cut_off c.args.word.now c.requires _ _ c.in-Some.line.items line.0 c.in-Some-size_in.size size _ _ c.in_ok-body.body.items c.in_ok-body.ensures.ok last.0 last.1

pub returns-in_err-take_byte-clause-err : goal.returns-in_err-take_byte-clause-err
returns-in_err-take_byte-clause-err g c =
    let answer : c.from_residual-in_err-take_byte.result ≡ Err c.in_err-take_byte.field-0.0 = search rules in
    let line = rw c.in-Some.is at c.in_ok-line.ensures.some in
    let size : IsSizeIn c.args.word.now c.in-Some.line.items c.in-Some-size_in.size = rw c.as_slice.ensures.value at c.in-Some-size_in.ensures.some in
    let later = later_more _ _ _ c.read_line.ensures.later c.read_body.ensures.later in
    rw answer (byte_stops c.args.word.now c.requires _ _ c.in-Some.line.items line.0 c.in-Some-size_in.size size _ _ c.in_ok-body.body.items c.in_ok-body.ensures.ok c.in_err-take_byte.field-0.0 later c.in_err-take_byte.ensures.err)
