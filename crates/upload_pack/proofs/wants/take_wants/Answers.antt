use Rattle.std.proofs.Common.{rules, ◌≡◌, ◌+◌, ◌-◌, ◌++◌, ◌∷◌, [], suc, Ok, refl, ◌∙◌, ap, arith}
use Rattle.std.proofs.lemmas.Result.{err_from_is_err_and}
use Rattle.session_core.proofs.StepLemmas.{lacks_at}
use Rattle.upload_pack.specs.Wants.{taking_wants, too_many_wants}
use Rattle.upload_pack.proofs.WantLemmas.{none_may_come, one_may_come, refused_wants, want_ends, want_exits, want_goes}
use Rattle.upload_pack.proofs.wants.take_wants.Goals as goal

pub returns-in_err-push-clause-runs : goal.returns-in_err-push-clause-runs
returns-in_err-push-clause-runs g c = λ desk. lacks_at _ desk _ c.from_residual.result _ c.from_residual.ensures.1

pub loop-init : goal.loop-init
loop-init g c =
    let is : c.push.new.self ≡ c.args.first ∷ [] = search rules in
    record { runs = λ b desk out ran. rw is at ran; reads = refl; puts = refl; ready = c.requires.ready }

pub take_want-requires : goal.take_want-requires
take_want-requires g c = record { ready = c.loop.invariant.ready }

pub returns-in_err-id-clause-runs : goal.returns-in_err-id-clause-runs
returns-in_err-id-clause-runs g c = λ desk.
    let p = err_from_is_err_and c.from_residual-in_err-id.result c.from_residual-in_err-id.ensures.1 in
    let may : 10000 - c.loop.counter ≡ suc (10000 - (c.loop.counter + 1)) = omega (arith, c.loop-test.true) in
    c.loop.invariant.runs _ desk _ (want_exits _ _ desk (taking_wants (10000 - (c.loop.counter + 1))) c.loop.wants _ _ _ (one_may_come _ _ c.loop.wants _ may) c.take_want.result (c.take_want.ensures.runs desk) _ _ _ _ c.in_err-id.was p.1 p.2)

pub returns-in_default-clause-runs : goal.returns-in_default-clause-runs
returns-in_default-clause-runs g c = λ desk.
    let may : 10000 - c.loop.counter ≡ suc (10000 - (c.loop.counter + 1)) = omega (arith, c.loop-test.true) in
    c.loop.invariant.runs _ desk _ (want_ends _ _ desk (taking_wants (10000 - (c.loop.counter + 1))) c.loop.wants _ _ _ (one_may_come _ _ c.loop.wants _ may) c.take_want.result (c.take_want.ensures.runs desk) (c.in_ok-id.was ∙ ap (λ o. Ok o) c.in_default.is))

pub returns-in_err-push-2-clause-runs : goal.returns-in_err-push-2-clause-runs
returns-in_err-push-2-clause-runs g c = λ desk.
    let may : 10000 - c.loop.counter ≡ suc (10000 - (c.loop.counter + 1)) = omega (arith, c.loop-test.true) in
    c.loop.invariant.runs _ desk _ (want_goes _ _ desk (taking_wants (10000 - (c.loop.counter + 1))) c.loop.wants _ _ _ (one_may_come _ _ c.loop.wants _ may) c.take_want.result (c.take_want.ensures.runs desk) _ c.in-Some.id _ (c.in_ok-id.was ∙ ap (λ o. Ok o) c.in-Some.is) (lacks_at _ desk _ c.from_residual-in_err-push-2.result _ c.from_residual-in_err-push-2.ensures.1))

pub loop-preserved : goal.loop-preserved
loop-preserved g c =
    let may : 10000 - c.loop.counter ≡ suc (10000 - (c.loop.counter + 1)) = omega (arith, c.loop-test.true) in
    let pushed : c.push-in-loop.new.self ≡ c.loop.wants ++ c.in-Some.id ∷ [] = search rules in
    record {
      runs = λ b desk out ran.
          c.loop.invariant.runs b desk out (want_goes _ _ desk (taking_wants (10000 - (c.loop.counter + 1))) c.loop.wants _ _ _ (one_may_come _ _ c.loop.wants _ may) c.take_want.result (c.take_want.ensures.runs desk) b c.in-Some.id out (c.in_ok-id.was ∙ ap (λ o. Ok o) c.in-Some.is) (rw pushed at ran));
      reads = c.in_ok-id.ensures.tells.0 ∙ c.loop.invariant.reads;
      puts = c.in_ok-id.ensures.tells.1 ∙ c.loop.invariant.puts;
      ready = c.in_ok-id.ensures.ready;
    }

pub take_want-requires-2 : goal.take_want-requires-2
take_want-requires-2 g c = record { ready = c.loop.invariant.ready }

pub returns-in_err-take_want-clause-runs : goal.returns-in_err-take_want-clause-runs
returns-in_err-take_want-clause-runs g c = λ desk.
    let p = err_from_is_err_and c.from_residual-in_err-take_want.result c.from_residual-in_err-take_want.ensures.1 in
    let may : 10000 - c.loop.counter ≡ 0 = omega (arith, c.loop-test.false) in
    c.loop.invariant.runs _ desk _ (want_exits _ _ desk (λ all behind. too_many_wants) c.loop.wants _ _ _ (none_may_come _ c.loop.wants _ may) c.take_want-2.result (c.take_want-2.ensures.runs desk) _ _ _ _ c.in_err-take_want.was p.1 p.2)

pub returns-in-None-clause-runs : goal.returns-in-None-clause-runs
returns-in-None-clause-runs g c = λ desk.
    let may : 10000 - c.loop.counter ≡ 0 = omega (arith, c.loop-test.false) in
    c.loop.invariant.runs _ desk _ (want_ends _ _ desk (λ all behind. too_many_wants) c.loop.wants _ _ _ (none_may_come _ c.loop.wants _ may) c.take_want-2.result (c.take_want-2.ensures.runs desk) (c.in_ok-take_want.was ∙ ap (λ o. Ok o) c.in-None.is))

pub returns-in-Some-2-clause-runs : goal.returns-in-Some-2-clause-runs
returns-in-Some-2-clause-runs g c = λ desk.
    let may : 10000 - c.loop.counter ≡ 0 = omega (arith, c.loop-test.false) in
    c.loop.invariant.runs _ desk _ (want_goes _ _ desk (λ all behind. too_many_wants) c.loop.wants _ _ _ (none_may_come _ c.loop.wants _ may) c.take_want-2.result (c.take_want-2.ensures.runs desk) _ _ _ (c.in_ok-take_want.was ∙ ap (λ o. Ok o) c.in-Some-2.is) (refused_wants _ _ desk _ (c.refuse_more_wants.ensures.runs desk)))
