use Rattle.std.proofs.Common.{◌≡◌, ◌||◌}
use Rattle.std.specs.List.{list_any}
use Rattle.git_object.specs.declared.object_id.ObjectId.{ObjectId}
use Rattle.ref_store.specs.Objects.{same_id}
use Rattle.upload_pack.specs.Advertising.{advertised_ids}
use Rattle.upload_pack.proofs.IdLemmas.{ids_left}
use Rattle.upload_pack.proofs.advertising.advertised_ids.Given as goal

abbrev pub invariant-loop-id : goal.invariant-loop-id
invariant-loop-id l = (other : ObjectId) → (list_any (same_id other) l.ids.keys || list_any (same_id other) (ids_left l.repo.objects l.id-iterator)) ≡ list_any (same_id other) (advertised_ids l.repo)
