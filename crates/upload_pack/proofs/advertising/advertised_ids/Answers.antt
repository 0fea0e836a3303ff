use Rattle.std.proofs.Common.{◌∙◌, sym}
use Rattle.upload_pack.proofs.AdvertisingLemmas.{lens_alone}
use Rattle.upload_pack.proofs.IdLemmas.{any_begun, any_put_all, any_put_more}
use Rattle.upload_pack.proofs.advertising.advertised_ids.Goals as goal

pub loop-id-init : goal.loop-id-init
loop-id-init c = λ other.
    let all = c.into_iter-id-iterator.ensures.into_iter_gives ∙ c.refs-id-items.ensures in
    any_begun c.args.repo.now other c.with_hasher-ids.result.keys _ c.with_hasher-ids.ensures.len all

pub loop-id-preserved : goal.loop-id-preserved
loop-id-preserved c = λ other.
    let here = lens_alone _ _ _ c.in_ok-lens.ensures c.new.ensures in
    any_put_more c.args.repo.now.objects other c.loop-id.ids.keys c.insert_with_peeled.new.ids.keys _ _ _ (rw here at (c.in_ok-insert_with_peeled.ensures other)) c.in-Some.ensures.steps
    ∙ c.loop-id.invariant other

pub returns : goal.returns
returns c = λ other. sym (any_put_all c.args.repo.now.objects other c.loop-id.ids.keys _ c.in-None.ensures.steps.0) ∙ c.loop-id.invariant other
