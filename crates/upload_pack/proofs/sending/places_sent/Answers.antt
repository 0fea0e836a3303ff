use Rattle.std.proofs.Common.{List, sym, subst, arith}
use Rattle.std.proofs.lemmas.List.{take_all}
use Rattle.std.proofs.lemmas.Result.{IfOk-weaker}
use Rattle.git_object.specs.Content.{Content}
use Rattle.ancestry.specs.Closures.{AreClosures}
use Rattle.upload_pack.proofs.SendingLemmas.{among_all, objects_sent, places_few, places_within}
use Rattle.upload_pack.proofs.sending.places_sent.Goals as goal

pub reach-requires : goal.reach-requires
reach-requires c = subst (λ (os : List Content). AreClosures os c.args.closures.now) (sym (take_all c.count.result c.args.repo.now.objects (omega (arith, c.count.ensures.count)))) c.requires

pub returns-clause-objects : goal.returns-clause-objects
returns-clause-objects c =
    IfOk-weaker c.reach.result _ _
    (λ places are. objects_sent c.args.repo.now.objects c.args.wants.now c.args.haves.now places.items (among_all c.args.repo.now.objects c.args.wants.now c.args.haves.now c.count.result places.items c.count.ensures.count are)) c.reach.ensures

pub returns-clause-within : goal.returns-clause-within
returns-clause-within c =
    IfOk-weaker c.reach.result _ _
    (λ places are. places_within c.args.repo.now.objects c.args.wants.now c.args.haves.now places.items (among_all c.args.repo.now.objects c.args.wants.now c.args.haves.now c.count.result places.items c.count.ensures.count are)) c.reach.ensures

pub returns-clause-few : goal.returns-clause-few
returns-clause-few c =
    IfOk-weaker c.reach.result _ _
    (λ places are. omega (arith, places_few c.args.repo.now.objects c.args.wants.now c.args.haves.now places.items (among_all c.args.repo.now.objects c.args.wants.now c.args.haves.now c.count.result places.items c.count.ensures.count are), c.count.ensures.count, c.count.ensures.few))
    c.reach.ensures
