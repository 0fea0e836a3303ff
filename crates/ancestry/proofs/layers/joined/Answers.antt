use Rattle.std.proofs.Common.{inr, sym, subst}
use Rattle.ancestry.specs.Tables.{Has, IsOfAll, IsOfTwo, Entries}
use Rattle.ancestry.proofs.TableLemmas.{of_nothing, of_all_more}
use Rattle.ancestry.proofs.layers.joined.Goals as goal

pub returns-then-is_empty : goal.returns-then-is_empty
returns-then-is_empty g c = λ id verdict has. inr (subst (λ (t : Entries g.row.V.Denot). Has t id verdict) c.in_ok-clone.ensures.cases has)

pub loop-layer-init : goal.loop-layer-init
loop-layer-init g c = λ id verdict has. inr (of_nothing c.args.last.now c.in_ok-joined.joined (subst (λ (t : Entries g.row.V.Denot). IsOfTwo t c.args.last.now c.in_ok-joined.joined) c.new-empty.ensures (subst (λ (t : Entries g.row.V.Denot). IsOfTwo c.new-empty.result t c.in_ok-joined.joined) c.table-2.ensures c.in_ok-joined.ensures)) id verdict has)

pub loop-layer-preserved : goal.loop-layer-preserved
loop-layer-preserved g c =
    of_all_more c.args.layers.now c.args.last.now c.loop-layer.joined c.in_ok-joined-2.joined c.layer-item.result c.loop-layer.invariant
    (c.loop-layer.layer-index, c.loop-layer-test.true, sym c.layer-item.is)
    (subst (λ (t : Entries g.row.V.Denot). IsOfTwo c.loop-layer.joined t c.in_ok-joined-2.joined) c.table-in-loop-layer.ensures c.in_ok-joined-2.ensures)

pub returns : goal.returns
returns g c = subst (λ (t : Entries g.row.V.Denot). IsOfAll c.args.layers.now c.args.last.now t) (sym c.in_ok-whole.ensures) c.loop-layer.invariant
