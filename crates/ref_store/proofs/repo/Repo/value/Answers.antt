use Rattle.std.proofs.Common.{sym, ap, ◌∙◌}
use Rattle.std.specs.FinMap as map
use Rattle.ref_store.specs.Refs.{Refs}
use Rattle.ref_store.proofs.repo.Repo.value.Goals as goal

-- no ref has the value zero
pub returns-in-Some-clause-absent : goal.returns-in-Some-clause-absent
returns-in-Some-clause-absent c is =
    let there = ap (λ (r : Refs). map.get r c.args.name.now) (sym c.refs.ensures) ∙ sym c.in-Some.ensures in
    absurd (c.self.invariant.values c.args.name.now c.in-Some.id.now there is)
