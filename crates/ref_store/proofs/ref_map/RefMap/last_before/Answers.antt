use Rattle.std.proofs.Common.{sym, ◌∙◌}
use Rattle.ref_store.proofs.RefLemmas.{last_nearest, none_behind_last}
use Rattle.ref_store.proofs.ref_map.RefMap.last_before.Goals as goal

pub returns-then-lt-clause-nearest : goal.returns-then-lt-clause-nearest
returns-then-lt-clause-nearest c = last_nearest c.args.self.now c.self.inside.entries c.in_ok-last.last.now c.args.name.now c.in_ok-last.field-0-1.now c.self.view_is c.in_ok-last.ensures.value c.in_ok-last.ensures.greatest (sym c.lt.ensures ∙ c.if-lt.true)

pub returns-then-lt-clause-none_from : goal.returns-then-lt-clause-none_from
returns-then-lt-clause-none_from c = none_behind_last c.args.self.now c.self.inside.entries c.in_ok-last.last.now c.args.name.now c.in_ok-last.field-0-1.now c.self.view_is c.in_ok-last.ensures.value c.in_ok-last.ensures.greatest (sym c.lt.ensures ∙ c.if-lt.true)
