use Rattle.std.proofs.Common.{◌≡◌, take, Ok, flat_map, All}
use Rattle.pktline_core.specs.Links.{IsLater, KeepsReading}
use Rattle.git_object.specs.Object.{IsPackable}
use Rattle.raw_pack.specs.Grammar.{spelled_entry}
use Rattle.raw_pack.specs.Writing.{WritesHashed, objects_at}
use Rattle.raw_pack.proofs.writing.write_entries.Given as goal

abbrev pub invariant-loop-place : goal.invariant-loop-place
invariant-loop-place g l = record {
  writes : WritesHashed (g.S.Endpoint.state l.initial.sink) (g.S.Endpoint.state l.sink) l.initial.hasher l.hasher (flat_map spelled_entry (objects_at l.repo.objects (take l.place-index l.places))) (Ok tt);
  packable : All IsPackable (objects_at l.repo.objects (take l.place-index l.places));
  tells : (g.S.Endpoint.state l.sink).write_faults ≡ (g.S.Endpoint.state l.initial.sink).write_faults;
  reading : KeepsReading (g.S.Endpoint.state l.initial.sink) (g.S.Endpoint.state l.sink);
  later : IsLater (g.S.Endpoint.state l.initial.sink) (g.S.Endpoint.state l.sink);
}
