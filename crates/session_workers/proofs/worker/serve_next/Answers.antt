use Rattle.std.proofs.Common.{◌∙◌, false, refl, ap}
use Rattle.hub.specs.Desk.{DeskView}
use Rattle.session_workers.proofs.DoorLemmas.{loses_one, gains_one}
use Rattle.session_workers.proofs.worker.serve_next.Goals as goal

pub returns-in-Link-clause-next : goal.returns-in-Link-clause-next
returns-in-Link-clause-next g c =
    let old = g.D.Door.state c.args.door.now in
    let mid = g.D.Door.state c.next.new.self in
    let new = g.D.Door.state c.done.new.self in
    let gives = c.in-Link.ensures.answers in
    let takes = c.done.ensures.taken in
    let link = c.in-Link.link in
    let back = c.serve-end.new.link in (
      record { link = link; back = back; end = c.serve-end.result; stopped = false },
      refl,
      record {
        given = loses_one old.left mid.left new.left link gives.given.0 takes.left;
        back = gains_one old.served mid.served new.served back gives.served takes.served;
        faults = takes.faults ∙ gives.given.3;
        more = c.serve-end.ensures.grows.more;
        seen = ap (λ (d : DeskView). d.seen) c.serve-end.ensures.grows.new_is;
        session = record {
          turn = c.serve-end.ensures.turn;
          cause = c.serve-end.ensures.causes;
          tells = c.serve-end.ensures.tells;
          sure = c.serve-end.ensures.sure;
        };
      },
    )
