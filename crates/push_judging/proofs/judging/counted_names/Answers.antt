use Rattle.std.proofs.Common.{rules, ◌≡◌, Bool, ◌∙◌, ap}
use Rattle.std.specs.Prelude.{is_some}
use Rattle.std.specs.FinMap.{get, insert}
use Rattle.ref_store.specs.Refs.{Name}
use Rattle.push_judging.proofs.CountingLemmas.{counts_none, counts_more}
use Rattle.push_judging.proofs.judging.counted_names.Goals as goal

pub loop-command-init : goal.loop-command-init
loop-command-init c = counts_none c.new-names.result c.new-names.ensures

pub loop-command-preserved : goal.loop-command-preserved
loop-command-preserved c =
    let again : c.is_some-again.result ≡ is_some (get c.loop-command.names c.command-item.result.name) = search rules in
    counts_more c.loop-command.names c.insert.new.self c.args.commands.now c.loop-command.command-index c.command-item.result c.loop-command-test.true c.command-item.is c.loop-command.invariant
    (c.in_ok-insert.ensures.ok
    ∙ ap (λ (n : Name). insert c.loop-command.names n c.is_some-again.result) c.in_ok-clone.ensures.cases
    ∙ ap (λ (b : Bool). insert c.loop-command.names c.command-item.result.name b) again)
