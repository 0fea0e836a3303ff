use Rattle.std.proofs.Common.{sym, inl}
use Rattle.ancestry.proofs.TableLemmas.{of_two_more}
use Rattle.ancestry.proofs.table.Table.with_all.Goals as goal

pub loop-id-init : goal.loop-id-init
loop-id-init g c = λ id verdict has. inl has

pub loop-id-preserved : goal.loop-id-preserved
loop-id-preserved g c =
    of_two_more c.args.self c.args.other.now c.loop-id.table c.insert.new.self c.in-Some.id.now c.in-Some-get.value c.loop-id.invariant (sym c.in-Some-get.ensures) c.in_ok-insert.ensures.ok

pub returns : goal.returns
returns g c = c.loop-id.invariant
