use Rattle.std.proofs.Common.{◌≡◌, ◌-◌, ◌∷◌, [], List, ℕ, Result}
use Rattle.git_object.specs.declared.object_id.ObjectId.{ObjectId}
use Rattle.pktline_core.specs.LinkState.{LinkState}
use Rattle.hub.specs.Desk.{DeskView}
use Rattle.interaction_tree.specs.Traces.{Halt}
use Rattle.interaction_tree.specs.Runs.{Runs}
use Rattle.session_core.specs.declared.end.SessionEnd.{SessionEnd}
use Rattle.session_core.specs.Readers.{IsReady}
use Rattle.upload_pack.specs.Wants.{taking_wants}
use Rattle.upload_pack.proofs.wants.take_wants.Given as goal

abbrev pub invariant-loop : goal.invariant-loop
invariant-loop g l = record {
  runs : (b : LinkState) (desk : DeskView) (out : Result (List ObjectId × ℕ) (Halt SessionEnd))
      → Runs (g.L.Endpoint.state l.link) b desk desk (taking_wants (10000 - l.counter) l.wants l.reader.offset) out
      → Runs (g.L.Endpoint.state l.initial.link) b desk desk (taking_wants 9999 (l.fn.first ∷ []) l.initial.reader.offset) out;
  reads : (g.L.Endpoint.state l.link).read_faults ≡ (g.L.Endpoint.state l.initial.link).read_faults;
  puts : (g.L.Endpoint.state l.link).write_faults ≡ (g.L.Endpoint.state l.initial.link).write_faults;
  ready : IsReady l.reader (g.L.Endpoint.state l.link);
}
