use Rattle.std.proofs.Common.{◌≡◌, List, sym, ◌∙◌, ap, arith, length}
use Rattle.ref_store.specs.Store.{Store}
use Rattle.ref_store.specs.declared.command.Command.{Command}
use Rattle.hub_history.specs.Push.{in_order, refs_left}
use Rattle.hub_history.proofs.PushLemmas.{length-in_order}
use Rattle.push_settling.proofs.settling.run_all.Goals as goal

pub together-requires : goal.together-requires
together-requires c =
    let slice : c.as_slice.result.now ≡ c.args.commands.now = c.as_slice.ensures in
    let alike : length c.args.judged.now ≡ length c.as_slice.result.now = c.requires.alike ∙ ap length (sym slice) in
    let len : length c.in_ok-ran.ran ≡ length c.as_slice.result.now =
    ap length c.in_ok-ran.ensures.outcomes ∙ length-in_order c.in_ok-repo.repo.refs c.as_slice.result.now c.args.judged.now alike in
    omega (arith, len, ap length slice, c.requires.few)

pub returns-clause-refs : goal.returns-clause-refs
returns-clause-refs c =
    ap (λ (s : Store). s.refs) c.in_ok-ran.ensures.repo
    ∙ ap (λ (cs : List Command). refs_left c.in_ok-repo.repo.refs cs (in_order c.in_ok-repo.repo.refs cs c.args.judged.now)) c.as_slice.ensures
    ∙ ap (λ (s : Store). refs_left s.refs c.args.commands.now (in_order s.refs c.args.commands.now c.args.judged.now)) (c.in_ok-repo.ensures ∙ c.repo.ensures)
