use Rattle.std.proofs.Common.{ℕ, ◌<◌, List, All, filter, length, sym, ◌∙◌, ap₂, subst}
use Rattle.std.proofs.lemmas.List.Elements.{All-filter}
use Rattle.vref.specs.PathTable.{is_listed_at}
use Rattle.vref.specs.declared.path_table.Row.{Row}
use Rattle.vref.proofs.path_list.PathList.of_walk.Goals as goal

pub invariant_of-result : goal.invariant_of-result
invariant_of-result c = (
  c.requires.linked,
  subst (λ (ks : List ℕ). All (λ k. k < length c.args.walked.rows.items) ks)
      (sym (c.in_ok-order.ensures ∙ ap₂ (λ (rs : List Row) (ks : List ℕ). filter (is_listed_at rs) ks) c.deref.ensures.value c.deref-2.ensures.value))
      (All-filter (is_listed_at c.args.walked.rows.items) (λ k. k < length c.args.walked.rows.items) c.args.walked.order.items c.requires.within),
)
