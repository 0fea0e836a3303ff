use Rattle.std.proofs.Common.{◌≡◌, ◌+◌, ◌-◌, suc, Ok, refl, ◌∙◌, ap, arith}
use Rattle.std.proofs.lemmas.Result.{err_from_is_err_and}
use Rattle.upload_pack.specs.Haves.{taking_haves}
use Rattle.upload_pack.proofs.HaveLemmas.{behind_inquiry, behind_last, inquiry_exits, inquiry_goes, none_may_come, one_may_come, refused_haves, reply_exits, reply_goes, still_ready}
use Rattle.upload_pack.proofs.haves.take_haves.Goals as goal

pub loop-init : goal.loop-init
loop-init g c = record { runs = λ b desk out ran. rw c.new-common.ensures at ran; reads = refl; puts = refl; ready = c.requires.ready }

pub take_inquiry-requires : goal.take_inquiry-requires
take_inquiry-requires g c = record { ready = c.loop.invariant.ready }

pub returns-in_err-inquiry-clause-runs : goal.returns-in_err-inquiry-clause-runs
returns-in_err-inquiry-clause-runs g c = λ desk.
    let p = err_from_is_err_and c.from_residual.result c.from_residual.ensures.1 in
    let may : 100000 - c.loop.counter ≡ suc (100000 - (c.loop.counter + 1)) = omega (arith, c.loop-test.true) in
    c.loop.invariant.runs _ desk _
    (inquiry_exits _ _ desk c.args.repo.now.objects (behind_inquiry c.args.repo.now.objects (100000 - (c.loop.counter + 1)) c.loop.common) c.loop.common _ _ _ (one_may_come _ _ _ c.loop.common _ may) c.take_inquiry.result (c.take_inquiry.ensures.runs desk) _ _ _ c.in_err-inquiry.was p.1 p.2)

pub returns-in_default-clause-runs : goal.returns-in_default-clause-runs
returns-in_default-clause-runs g c = λ desk.
    let may : 100000 - c.loop.counter ≡ suc (100000 - (c.loop.counter + 1)) = omega (arith, c.loop-test.true) in
    c.loop.invariant.runs _ desk _
    (inquiry_goes _ _ desk c.args.repo.now.objects (behind_inquiry c.args.repo.now.objects (100000 - (c.loop.counter + 1)) c.loop.common) c.loop.common _ _ _ (one_may_come _ _ _ c.loop.common _ may) c.take_inquiry.result (c.take_inquiry.ensures.runs desk) _ _ _ (c.in_ok-inquiry.was ∙ ap (λ o. Ok o) c.in_default.is) (c.end_haves.ensures.runs desk))

pub returns-in_err-answer-clause-runs : goal.returns-in_err-answer-clause-runs
returns-in_err-answer-clause-runs g c = λ desk.
    let p = err_from_is_err_and c.from_residual-in_err-answer.result c.from_residual-in_err-answer.ensures.1 in
    let may : 100000 - c.loop.counter ≡ suc (100000 - (c.loop.counter + 1)) = omega (arith, c.loop-test.true) in
    c.loop.invariant.runs _ desk _
    (inquiry_goes _ _ desk c.args.repo.now.objects (behind_inquiry c.args.repo.now.objects (100000 - (c.loop.counter + 1)) c.loop.common) c.loop.common _ _ _ (one_may_come _ _ _ c.loop.common _ may) c.take_inquiry.result (c.take_inquiry.ensures.runs desk) _ _ _ (c.in_ok-inquiry.was ∙ ap (λ o. Ok o) c.in-Some.is)
    (reply_exits _ _ desk (λ all. taking_haves c.args.repo.now.objects (100000 - (c.loop.counter + 1)) all c.take_inquiry.new.reader.offset) c.args.repo.now.objects c.loop.common c.in-Some.inquiry c.answer.result (c.answer.ensures.runs desk) _ _ _ c.in_err-answer.was p.1 p.2))

pub loop-preserved : goal.loop-preserved
loop-preserved g c =
    let may : 100000 - c.loop.counter ≡ suc (100000 - (c.loop.counter + 1)) = omega (arith, c.loop-test.true) in
    record {
      runs = λ b desk out ran.
          c.loop.invariant.runs b desk out
          (inquiry_goes _ _ desk c.args.repo.now.objects (behind_inquiry c.args.repo.now.objects (100000 - (c.loop.counter + 1)) c.loop.common) c.loop.common _ _ _ (one_may_come _ _ _ c.loop.common _ may) c.take_inquiry.result (c.take_inquiry.ensures.runs desk) _ _ _ (c.in_ok-inquiry.was ∙ ap (λ o. Ok o) c.in-Some.is)
          (reply_goes _ _ desk (λ all. taking_haves c.args.repo.now.objects (100000 - (c.loop.counter + 1)) all c.take_inquiry.new.reader.offset) c.args.repo.now.objects c.loop.common c.in-Some.inquiry c.answer.result (c.answer.ensures.runs desk) b c.in_ok-answer.field-0 out c.in_ok-answer.was (rw c.in_ok-answer.ensures.common at ran)));
      reads = c.in_ok-answer.ensures.tells.0 ∙ c.in_ok-inquiry.ensures.tells.0 ∙ c.loop.invariant.reads;
      puts = c.in_ok-answer.ensures.tells.1 ∙ c.in_ok-inquiry.ensures.tells.1 ∙ c.loop.invariant.puts;
      ready = still_ready _ _ _ c.in_ok-inquiry.ensures.ready c.answer.ensures.reading;
    }

pub take_inquiry-requires-2 : goal.take_inquiry-requires-2
take_inquiry-requires-2 g c = record { ready = c.loop.invariant.ready }

pub returns-in_err-take_inquiry-clause-runs : goal.returns-in_err-take_inquiry-clause-runs
returns-in_err-take_inquiry-clause-runs g c = λ desk.
    let p = err_from_is_err_and c.from_residual-in_err-take_inquiry.result c.from_residual-in_err-take_inquiry.ensures.1 in
    let may : 100000 - c.loop.counter ≡ 0 = omega (arith, c.loop-test.false) in
    c.loop.invariant.runs _ desk _ (inquiry_exits _ _ desk c.args.repo.now.objects (behind_last c.loop.common) c.loop.common _ _ _ (none_may_come _ _ c.loop.common _ may) c.take_inquiry-2.result (c.take_inquiry-2.ensures.runs desk) _ _ _ c.in_err-take_inquiry.was p.1 p.2)

pub returns-in-None-clause-runs : goal.returns-in-None-clause-runs
returns-in-None-clause-runs g c = λ desk.
    let may : 100000 - c.loop.counter ≡ 0 = omega (arith, c.loop-test.false) in
    c.loop.invariant.runs _ desk _ (inquiry_goes _ _ desk c.args.repo.now.objects (behind_last c.loop.common) c.loop.common _ _ _ (none_may_come _ _ c.loop.common _ may) c.take_inquiry-2.result (c.take_inquiry-2.ensures.runs desk) _ _ _ (c.in_ok-take_inquiry.was ∙ ap (λ o. Ok o) c.in-None.is) (c.end_haves-in-None.ensures.runs desk))

pub returns-in-Some-2-clause-runs : goal.returns-in-Some-2-clause-runs
returns-in-Some-2-clause-runs g c = λ desk.
    let may : 100000 - c.loop.counter ≡ 0 = omega (arith, c.loop-test.false) in
    c.loop.invariant.runs _ desk _ (inquiry_goes _ _ desk c.args.repo.now.objects (behind_last c.loop.common) c.loop.common _ _ _ (none_may_come _ _ c.loop.common _ may) c.take_inquiry-2.result (c.take_inquiry-2.ensures.runs desk) _ _ _ (c.in_ok-take_inquiry.was ∙ ap (λ o. Ok o) c.in-Some-2.is) (refused_haves _ _ desk _ (c.refuse_more_haves.ensures.runs desk)))
