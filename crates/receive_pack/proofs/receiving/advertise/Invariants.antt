use Rattle.std.proofs.Common.{◌≡◌, ◌≤◌, length, true}
use Rattle.std.specs.List.{All}
use Rattle.std.specs.FinMap.{entries}
use Rattle.git_object.specs.declared.object_id.ObjectId.{ObjectId}
use Rattle.pktline_core.specs.LinkState.{LinkState}
use Rattle.pktline_core.specs.Links.{KeepsReading}
use Rattle.hub.specs.Desk.{DeskView}
use Rattle.ref_store.specs.Refs.{Name}
use Rattle.interaction_tree.specs.Interaction.{write}
use Rattle.interaction_tree.specs.Traces.{Halt}
use Rattle.interaction_tree.specs.Runs.{Runs}
use Rattle.std.proofs.Common.{Result}
use Rattle.session_core.specs.declared.end.SessionEnd.{SessionEnd}
use Rattle.receive_pack.proofs.AdvertisementLemmas.{rest_text}
use Rattle.receive_pack.proofs.receiving.advertise.Given as goal

abbrev pub invariant-loop-name : goal.invariant-loop-name
invariant-loop-name g l = record {
  writes : (c : LinkState) (desk : DeskView) (out : Result (Unit {0}) (Halt SessionEnd))
      → Runs (g.L.Endpoint.state l.link) c desk desk (write (rest_text l.first l.name-iterator)) out
      → Runs (g.L.Endpoint.state l.initial.link) c desk desk (write (rest_text true (entries l.repo.refs))) out;
  reads : (g.L.Endpoint.state l.link).read_faults ≡ (g.L.Endpoint.state l.initial.link).read_faults;
  puts : (g.L.Endpoint.state l.link).write_faults ≡ (g.L.Endpoint.state l.initial.link).write_faults;
  reading : KeepsReading (g.L.Endpoint.state l.initial.link) (g.L.Endpoint.state l.link);
  short : All (λ (ref : Name × ObjectId). length ref.0 ≤ 1024) l.name-iterator;
}
