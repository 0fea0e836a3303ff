use Rattle.std.proofs.Common.{◌≡◌, ◌++◌, ◌∙◌, ◌≤◌, List, ℕ, Err, ap, take, refl, arith, rules}
use Rattle.std.proofs.lemmas.List.{length-take-le}
use Rattle.std.proofs.KnownBytes.{Consumes-nil}
use Rattle.pktline_core.proofs.LinkLemmas.{later_more, later_same}
use Rattle.shell_program.specs.declared.check.ReadAllFault.TheVariants.{NoMemory}
use Rattle.shell_program.proofs.CheckLemmas.{front_of, read_failed, takes_kept}
use Rattle.script_frames.proofs.ReadingLemmas.{takes_more}
use Rattle.shell_program.proofs.check.read_all.Goals as goal

pub loop-count-init : goal.loop-count-init
loop-count-init g c =
    let source = g.S.Endpoint.state c.args.source.now in
    record {
      takes = rw c.new-input.ensures.items (record { consumed = Consumes-nil source.left; counted = omega arith });
      room = search rules;
      tells = refl;
      later = later_same source;
    }

pub loop-count-smaller : goal.loop-count-smaller
loop-count-smaller g c = omega (arith, c.in-Got.ensures.taken.0, c.in-Got.ensures.taken.3, g.met.S.Source.given_below c.loop-count.source, g.met.S.Source.given_below c.take.new.self)

pub loop-count-preserved : goal.loop-count-preserved
loop-count-preserved g c =
    let old = c.loop-count.invariant in
    let taken = c.in-Got.ensures.taken in
    let len = length-take-le c.in-Got.count c.take.new.room taken.1 in
    let within : c.in-Got.count ≤ c.loop-count.room.len = search rules in
    let front : c.split_at.result.0.now ≡ take c.in-Got.count c.take.new.room = c.split_at.ensures.front ∙ ap (take c.in-Got.count) c.deref.ensures.value ∙ front_of c.in-Got.count _ c.take.new.room _ taken.1 within in
    let appended : c.extend_from_slice.new.self.items ≡ c.loop-count.input.items ++ take c.in-Got.count c.take.new.room = c.in_ok-extend_from_slice-in-Got.ensures.items ∙ ap (λ (l : List ℕ). c.loop-count.input.items ++ l) front in
    record {
      takes = rw appended (takes_more _ _ _ _ _ old.takes (record { consumed = taken.2; counted = omega (arith, taken.3, len) }));
      room = search rules;
      tells = c.in-Got.ensures.tells ∙ old.tells;
      later = later_more _ _ _ old.later c.in-Got.ensures.later;
    }

pub returns-in_err-extend_from_slice-in-Got-clause-err : goal.returns-in_err-extend_from_slice-in-Got-clause-err
returns-in_err-extend_from_slice-in-Got-clause-err g c =
    let answer : c.from_residual-in_err-extend_from_slice-in-Got.result ≡ Err NoMemory = search rules in
    let taken = c.in-Got.ensures.taken in
    let len = length-take-le c.in-Got.count c.take.new.room taken.1 in
    rw answer (record {
      part = c.loop-count.input.items ++ take c.in-Got.count c.take.new.room;
      takes = takes_more _ _ _ _ _ c.loop-count.invariant.takes (record { consumed = taken.2; counted = omega (arith, taken.3, len) });
    })

pub returns-in-End-clause-ok : goal.returns-in-End-clause-ok
returns-in-End-clause-ok g c =
    let taken = c.in-End.ensures.taken in
    record { takes = takes_kept _ _ _ _ c.loop-count.invariant.takes taken.1 taken.2; ended = taken.0 }

pub returns-in-Failed-clause-err : goal.returns-in-Failed-clause-err
returns-in-Failed-clause-err g c =
    let old = c.loop-count.invariant in
    let taken = c.in-Failed.ensures.taken in
    read_failed _ _ _ _ old.takes old.later taken.2 taken.3 taken.0 taken.1
