use Rattle.std.proofs.Common.{rules, tests, not}
use Rattle.std.specs.List.{list_any}
use Rattle.std.proofs.lemmas.Iterator.{YieldsList-from_slice}
use Rattle.std.proofs.lemmas.Iterator.Consumers.{YieldsList-from_copied}
use Rattle.std.proofs.lemmas.Iterator.Search.{find_from_yields_List}
use Rattle.git_object.specs.declared.object_id.ObjectId.{ObjectId}
use Rattle.ref_store.specs.Objects.{same_id}
use Rattle.upload_pack.proofs.IdLemmas.{found_as}
use Rattle.upload_pack.proofs.advertising.not_ours.Goals as goal

pub returns : goal.returns
returns c =
    found_as c.find.result c.in_ok-ours.ours.keys _ c.args.wants.now c.in_ok-ours.ensures
    (find_from_yields_List (λ (id : ObjectId). not (list_any (same_id id) c.in_ok-ours.ours.keys)) _ _ c.find.result c.find.ensures.ran (YieldsList-from_copied (YieldsList-from_slice c.args.wants.now (search rules))) (λ x b q k. search (rules, tests)))
