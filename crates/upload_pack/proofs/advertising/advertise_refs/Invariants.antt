use Rattle.std.proofs.Common.{◌≡◌, Result}
use Rattle.pktline_core.specs.LinkState.{LinkState}
use Rattle.pktline_core.specs.Links.{KeepsReading}
use Rattle.hub.specs.Desk.{DeskView}
use Rattle.interaction_tree.specs.Interaction.{write}
use Rattle.interaction_tree.specs.Traces.{Halt}
use Rattle.interaction_tree.specs.Runs.{Runs}
use Rattle.session_core.specs.declared.end.SessionEnd.{SessionEnd}
use Rattle.upload_pack.specs.Advertising.{refs_text}
use Rattle.upload_pack.proofs.AdvertisingLemmas.{AreShort, rest_text}
use Rattle.upload_pack.proofs.advertising.advertise_refs.Given as goal

abbrev pub invariant-loop-name : goal.invariant-loop-name
invariant-loop-name g l = record {
  writes : (c : LinkState) (desk : DeskView) (out : Result (Unit {0}) (Halt SessionEnd))
      → Runs (g.L.Endpoint.state l.link) c desk desk (write (rest_text l.repo.objects l.first l.name-iterator)) out
      → Runs (g.L.Endpoint.state l.initial.link) c desk desk (write (refs_text l.none l.repo)) out;
  reads : (g.L.Endpoint.state l.link).read_faults ≡ (g.L.Endpoint.state l.initial.link).read_faults;
  puts : (g.L.Endpoint.state l.link).write_faults ≡ (g.L.Endpoint.state l.initial.link).write_faults;
  reading : KeepsReading (g.L.Endpoint.state l.initial.link) (g.L.Endpoint.state l.link);
  short : AreShort l.name-iterator;
}
