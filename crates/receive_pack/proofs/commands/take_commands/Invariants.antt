use Rattle.std.proofs.Common.{◌≡◌, ◌-◌, List, length, Result}
use Rattle.pktline_core.specs.LinkState.{LinkState}
use Rattle.ref_store.specs.declared.command.Command.{Command}
use Rattle.hub.specs.Desk.{DeskView}
use Rattle.interaction_tree.specs.Traces.{Halt}
use Rattle.interaction_tree.specs.Runs.{Runs}
use Rattle.session_core.specs.declared.end.SessionEnd.{SessionEnd}
use Rattle.receive_pack.specs.Changes.{HaveShortNames}
use Rattle.session_core.specs.Readers.{IsReady}
use Rattle.receive_pack.specs.Receiving.{taking_commands}
use Rattle.receive_pack.proofs.CommandLemmas.{still_taking}
use Rattle.receive_pack.proofs.commands.take_commands.Given as goal

abbrev pub invariant-loop : goal.invariant-loop
invariant-loop g l = record {
  runs : (b : LinkState) (desk : DeskView) (out : Result (List Command) (Halt SessionEnd))
      → Runs (g.L.Endpoint.state l.link) b desk desk (still_taking l.commands (10000 - l.counter) l.reader.offset) out
      → Runs (g.L.Endpoint.state l.initial.link) b desk desk (taking_commands l.fn.first l.initial.reader.offset) out;
  reads : (g.L.Endpoint.state l.link).read_faults ≡ (g.L.Endpoint.state l.initial.link).read_faults;
  puts : (g.L.Endpoint.state l.link).write_faults ≡ (g.L.Endpoint.state l.initial.link).write_faults;
  ready : IsReady l.reader (g.L.Endpoint.state l.link);
  count : length l.commands ≡ l.counter;
  short : HaveShortNames l.commands;
}
