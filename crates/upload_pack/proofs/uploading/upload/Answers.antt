use Rattle.std.proofs.Common.{◌≡◌, refl}
use Rattle.interaction_tree.specs.Traces.{Ended}
use Rattle.session_core.specs.End.{halt_of}
use Rattle.session_core.proofs.PartLemmas.{part_alone}
use Rattle.upload_pack.specs.declared.uploading.FetchEnd.{FetchEnd}
use Rattle.upload_pack.specs.declared.uploading.FetchEnd.TheVariants.{Served, NotOurRef}
use Rattle.upload_pack.specs.Uploading.{fetched_end, uploading}
use Rattle.upload_pack.proofs.OrderLemmas.{order_uploading}
use Rattle.upload_pack.proofs.uploading.upload.Goals as goal

pub returns-clause-turn : goal.returns-clause-turn
returns-clause-turn g c = part_alone fetched_end stands _ _ (uploading c.args.pin.now c.args.reader.now.offset) c.upload_both.result (order_uploading c.args.pin.now c.args.reader.now.offset) c.upload_both.ensures.runs
  where
    stands : (value : FetchEnd) → halt_of (fetched_end value) ≡ Ended (fetched_end value)
    stands Served = refl
    stands (NotOurRef id) = refl
