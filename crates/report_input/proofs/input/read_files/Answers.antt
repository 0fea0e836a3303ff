use Rattle.std.proofs.Common.{◌≡◌, ◌∙◌, Err, arith, rules}
use Rattle.pktline_core.proofs.LinkLemmas.{later_more}
use Rattle.report_input.proofs.InputLemmas.{given_more, took_more, took_stopped}
use Rattle.report_input.proofs.input.read_files.Goals as goal

pub returns-in_err-taken-clause-err : goal.returns-in_err-taken-clause-err
returns-in_err-taken-clause-err g c =
    let answer : c.from_residual.result ≡ Err c.in_err-taken.field-0.0 = search rules in
    rw answer (took_stopped _ _ _ c.loop-confs.confs c.args.offset c.loop-confs.place c.in_err-taken.field-0.0 c.loop-confs.invariant.took c.loop-confs.invariant.later c.in_err-taken.ensures.err)

pub loop-confs-smaller : goal.loop-confs-smaller
loop-confs-smaller g c =
    let adds = rw c.in-Some.is at c.in_ok-taken.ensures.some in
    omega (arith, given_more _ _ _ _ _ adds, g.met.S.Source.given_below c.loop-confs.source, g.met.S.Source.given_below c.add_file.new.source)

pub loop-confs-preserved : goal.loop-confs-preserved
loop-confs-preserved g c =
    let adds = rw c.in-Some.is at c.in_ok-taken.ensures.some in
    record {
      took = took_more _ _ _ c.loop-confs.confs c.add_file.new.confs c.args.offset c.loop-confs.place c.in-Some.taken c.loop-confs.invariant.took adds;
      tells = c.in_ok-taken.ensures.tells ∙ c.loop-confs.invariant.tells;
      later = later_more _ _ _ c.loop-confs.invariant.later c.add_file.ensures.later;
    }
