use Rattle.std.proofs.Common.{sym, ◌∙◌}
use Rattle.ref_store.proofs.ObjectLemmas.{id_is}
use Rattle.vref.proofs.AdvanceLemmas.{advance_of_itself}
use Rattle.vref.proofs.advances.advance_by_walk.Goals as goal

pub returns-then-eq : goal.returns-then-eq
returns-then-eq c = advance_of_itself c.args.lens.now c.args.pair.0 c.args.pair.1 (id_is c.args.pair.0 c.args.pair.1 (sym c.eq.ensures ∙ c.if-eq.true))
