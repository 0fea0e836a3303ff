use Rattle.std.proofs.Common.{◌≡◌, ◌-◌, ◌≤◌, [], All, length}
use Rattle.git_object.specs.Object.{IsPackable, total_bytes}
use Rattle.pktline_core.specs.Links.{IsLater, KeepsWriting}
use Rattle.raw_pack.specs.Packs.{pack_entries}
use Rattle.raw_pack.specs.Reading.{Leaves}
use Rattle.raw_pack.proofs.reading.read_entries.Given as goal

abbrev pub invariant-loop-entry : goal.invariant-loop-entry
invariant-loop-entry g l = record {
  leaves : Leaves (pack_entries l.count 0 0 []) (pack_entries (l.count - l.entry) l.entry l.sum l.objects) (g.S.Endpoint.state l.initial.source) (g.S.Endpoint.state l.source) l.initial.hasher l.hasher;
  tells : (g.S.Endpoint.state l.source).read_faults ≡ (g.S.Endpoint.state l.initial.source).read_faults;
  writing : KeepsWriting (g.S.Endpoint.state l.initial.source) (g.S.Endpoint.state l.source);
  later : IsLater (g.S.Endpoint.state l.initial.source) (g.S.Endpoint.state l.source);
  sum : l.sum ≤ 268435456;
  all : length l.objects ≡ l.entry;
  light : total_bytes l.objects ≡ l.sum;
  formed : All IsPackable l.objects;
}
