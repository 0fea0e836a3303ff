use Rattle.std.proofs.Common.{rules, ◌≡◌, ◌+◌, ◌-◌, ◌++◌, ◌∷◌, [], suc, Ok, refl, ◌∙◌, ap, arith, length-append}
use Rattle.std.proofs.lemmas.Result.{err_from_is_err_and}
use Rattle.interaction_tree.proofs.RunLemmas.{runs_memory}
use Rattle.receive_pack.specs.Changes.{HasShortName}
use Rattle.receive_pack.proofs.ListLemmas.{all_pushed}
use Rattle.receive_pack.proofs.CommandLemmas.{taking_is, further_exits, further_ends, further_goes, last_exits, more_exits, more_ends}
use Rattle.receive_pack.proofs.commands.take_commands.Goals as goal

pub returns-in_default-clause-runs : goal.returns-in_default-clause-runs
returns-in_default-clause-runs g c = λ desk. runs_memory _ desk _

pub loop-init : goal.loop-init
loop-init g c =
    let is : c.push.new.self ≡ c.args.first ∷ [] = search rules in
    record {
      runs = λ b desk out ran. rw (taking_is c.args.first _) (rw is at ran);
      reads = refl;
      puts = refl;
      ready = c.requires.ready;
      count = rw is;
      short = rw is (c.requires.short, tt);
    }

pub take_further-requires : goal.take_further-requires
take_further-requires g c = record { ready = c.loop.invariant.ready }

pub returns-in_err-command-clause-runs : goal.returns-in_err-command-clause-runs
returns-in_err-command-clause-runs g c = λ desk.
    let p = err_from_is_err_and c.from_residual.result c.from_residual.ensures.1 in
    let may : 10000 - c.loop.counter ≡ suc (10000 - (c.loop.counter + 1)) = omega (arith, c.loop-test.true) in
    c.loop.invariant.runs _ desk _ (further_exits _ _ desk c.loop.commands _ _ _ _ may c.take_further.result (c.take_further.ensures.runs desk) _ _ _ c.in_err-command.was p.1 p.2)

pub returns-in_default-2-clause-runs : goal.returns-in_default-2-clause-runs
returns-in_default-2-clause-runs g c = λ desk.
    let may : 10000 - c.loop.counter ≡ suc (10000 - (c.loop.counter + 1)) = omega (arith, c.loop-test.true) in
    c.loop.invariant.runs _ desk _ (further_ends _ _ desk c.loop.commands _ _ _ _ may c.take_further.result (c.take_further.ensures.runs desk) (c.in_ok-command.was ∙ ap (λ o. Ok o) c.in_default-2.is))

pub returns-in_default-2-clause-within : goal.returns-in_default-2-clause-within
returns-in_default-2-clause-within g c = record {
  some = omega (arith, c.loop.invariant.count, c.loop.auto.counter);
  few = omega (arith, c.loop.invariant.count, c.loop-test.true);
  short = c.loop.invariant.short;
}

pub returns-in_default-push-clause-runs : goal.returns-in_default-push-clause-runs
returns-in_default-push-clause-runs g c = λ desk.
    let may : 10000 - c.loop.counter ≡ suc (10000 - (c.loop.counter + 1)) = omega (arith, c.loop-test.true) in
    c.loop.invariant.runs _ desk _ (further_goes _ _ desk c.loop.commands _ _ _ _ may c.take_further.result (c.take_further.ensures.runs desk) _ c.in-Some.command _ (c.in_ok-command.was ∙ ap (λ o. Ok o) c.in-Some.is) (runs_memory _ desk _))

pub loop-preserved : goal.loop-preserved
loop-preserved g c =
    let may : 10000 - c.loop.counter ≡ suc (10000 - (c.loop.counter + 1)) = omega (arith, c.loop-test.true) in
    let pushed : c.push-in-loop.new.self ≡ c.loop.commands ++ c.in-Some.command ∷ [] = search rules in
    record {
      runs = λ b desk out ran.
          c.loop.invariant.runs b desk out (further_goes _ _ desk c.loop.commands _ _ _ _ may c.take_further.result (c.take_further.ensures.runs desk) b c.in-Some.command out (c.in_ok-command.was ∙ ap (λ o. Ok o) c.in-Some.is) (rw pushed at ran));
      reads = c.in_ok-command.ensures.tells.0 ∙ c.loop.invariant.reads;
      puts = c.in_ok-command.ensures.tells.1 ∙ c.loop.invariant.puts;
      ready = c.in_ok-command.ensures.ready;
      count = rw pushed (omega (arith, length-append c.loop.commands (c.in-Some.command ∷ []), c.loop.invariant.count));
      short = rw pushed (all_pushed HasShortName c.loop.commands c.in-Some.command c.loop.invariant.short (search rules));
    }

pub take_further-requires-2 : goal.take_further-requires-2
take_further-requires-2 g c = record { ready = c.loop.invariant.ready }

pub returns-in_err-next-clause-runs : goal.returns-in_err-next-clause-runs
returns-in_err-next-clause-runs g c = λ desk.
    let p = err_from_is_err_and c.from_residual-in_err-next.result c.from_residual-in_err-next.ensures.1 in
    let may : 10000 - c.loop.counter ≡ 0 = omega (arith, c.loop-test.false) in
    c.loop.invariant.runs _ desk _ (last_exits _ _ desk c.loop.commands _ _ _ may c.take_further-2.result (c.take_further-2.ensures.runs desk) _ _ _ c.in_err-next.was p.1 p.2)

pub returns-in_err-no_more-clause-runs : goal.returns-in_err-no_more-clause-runs
returns-in_err-no_more-clause-runs g c = λ desk.
    let p = err_from_is_err_and c.from_residual-in_err-no_more.result c.from_residual-in_err-no_more.ensures.1 in
    let may : 10000 - c.loop.counter ≡ 0 = omega (arith, c.loop-test.false) in
    c.loop.invariant.runs _ desk _ (more_exits _ _ desk c.loop.commands _ _ _ may c.take_further-2.result (c.take_further-2.ensures.runs desk) _ c.in_ok-next.next c.in_ok-next.was c.no_more.result (c.no_more.ensures.runs desk) _ _ _ c.in_err-no_more.was p.1 p.2)

pub returns-clause-runs : goal.returns-clause-runs
returns-clause-runs g c = λ desk.
    let may : 10000 - c.loop.counter ≡ 0 = omega (arith, c.loop-test.false) in
    c.loop.invariant.runs _ desk _ (more_ends _ _ desk c.loop.commands _ _ _ may c.take_further-2.result (c.take_further-2.ensures.runs desk) _ c.in_ok-next.next c.in_ok-next.was c.no_more.result (c.no_more.ensures.runs desk) _ c.in_ok-no_more.was)

pub returns-clause-within : goal.returns-clause-within
returns-clause-within g c = record {
  some = omega (arith, c.loop.invariant.count, c.loop.auto.counter);
  few = omega (arith, c.loop.invariant.count, c.loop.auto.counter);
  short = c.loop.invariant.short;
}
