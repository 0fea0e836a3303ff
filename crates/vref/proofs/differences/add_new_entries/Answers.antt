use Rattle.std.proofs.Common.{List, map, subst, ◌∙◌, arith}
use Rattle.std.proofs.lemmas.List.{take_all}
use Rattle.git_object.specs.Tree.{entry_of}
use Rattle.git_object.specs.declared.tree.TreeEntry.{TreeEntry}
use Rattle.vref.specs.Differences.{FindsBoth}
use Rattle.vref.proofs.DifferenceLemmas.{new_known, new_more}
use Rattle.vref.proofs.differences.add_new_entries.Goals as goal

pub loop-entry-preserved-in_default : goal.loop-entry-preserved-in_default
loop-entry-preserved-in_default c old finds =
    new_known old c.args.entries.now c.loop-entry.entry-index _ c.loop-entry.names c.copied-known.result c.loop-entry-test.true (c.loop-entry.invariant old finds) (c.copied-known.ensures ∙ c.get.ensures.value)
    c.in_default.ensures

pub loop-entry-preserved : goal.loop-entry-preserved
loop-entry-preserved c old finds =
    new_more old c.args.entries.now c.loop-entry.entry-index _ c.loop-entry.names c.insert.new.self c.copied-known.result c.in-Some.sides c.loop-entry-test.true (c.loop-entry.invariant old finds) (c.copied-known.ensures ∙ c.get.ensures.value)
    c.in-Some.ensures
    c.in_ok-insert.ensures.updates c.in_ok-insert.ensures.ordered

pub returns : goal.returns
returns c old finds =
    subst (λ (xs : List TreeEntry). FindsBoth old (map entry_of xs) c.loop-entry.names) (take_all c.loop-entry.entry-index c.args.entries.now (omega arith))
    (c.loop-entry.invariant old finds)
