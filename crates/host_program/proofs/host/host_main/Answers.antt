use Rattle.std.proofs.Common.{ap, refl}
use Rattle.std.specs.Prelude.{Option, option_map}
use Rattle.hub_journal.specs.declared.recovery.Recovered.{Recovered}
use Rattle.host_program.specs.Host.{HostRun}
use Rattle.host_program.proofs.HostLemmas.{ran, refused}
use Rattle.host_program.proofs.host.host_main.Goals as goal

pub returns-in-Ok-clause-ends : goal.returns-in-Ok-clause-ends
returns-in-Ok-clause-ends g c =
    let ended = c.serve_open.result in
    let run : HostRun = record {
      modeled = g.Y.Disk.is_modeled;
      disk = g.Y.Disk.state c.args.disk;
      disk' = option_map g.Y.Disk.state ended.disk;
      sink = g.O.Endpoint.state c.args.output.now;
      sink' = g.O.Endpoint.state c.serve_open.new.output;
      log = ended.log;
      stored = ended.stored;
      status = c.serve_open.ensures.ends.0;
    } in (
      c.serve_open.ensures.ends.0,
      c.serve_open.ensures.ends.1,
      ran g.L.Endpoint.state g.D.Door.state c.args.admin.now c.args.each c.args.posts.now c.serve_open.new.posts run c.in-Ok.recovered.hub c.in-Ok.recovered.writer.end (g.Y.Disk.state c.recover.new.disk)
          c.in-Ok.ensures.admin c.in-Ok.ensures.legal c.in-Ok.ensures.found c.in-Ok.ensures.faults c.in-Ok.ensures.durable c.in-Ok.ensures.any_moment c.serve_open.ensures.ends.2,
    )

pub returns-in-Err-clause-ends : goal.returns-in-Err-clause-ends
returns-in-Err-clause-ends g c =
    let ended = c.end_refused.result in
    let run : HostRun = record {
      modeled = g.Y.Disk.is_modeled;
      disk = g.Y.Disk.state c.args.disk;
      disk' = option_map g.Y.Disk.state ended.disk;
      sink = g.O.Endpoint.state c.args.output.now;
      sink' = g.O.Endpoint.state c.end_refused.new.output;
      log = ended.log;
      stored = ended.stored;
      status = c.end_refused.ensures.ends.0;
    } in (
      c.end_refused.ensures.ends.0,
      c.end_refused.ensures.ends.1,
      refused g.L.Endpoint.state g.D.Door.state c.args.admin.now c.args.each c.args.posts.now c.args.posts.now run Recovered c.in-Err.fault (g.Y.Disk.state c.recover.new.disk)
          (ap (λ (o : Option _). option_map g.Y.Disk.state o) c.end_refused.ensures.disk) c.in-Err.ensures.refused c.in-Err.ensures.faults c.in-Err.ensures.any_moment c.end_refused.ensures.ends.2 (λ k d. refl) c.end_refused.ensures.log.0,
    )
