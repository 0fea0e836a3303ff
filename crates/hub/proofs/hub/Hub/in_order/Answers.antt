use Rattle.std.proofs.Common.{sym, ◌∙◌, ap, ap₂}
use Rattle.std.specs.FinMap.{empty, from_entries, insert}
use Rattle.base_types.specs.Names.{ByName}
use Rattle.base_types.proofs.NameMaps.{insert-entries}
use Rattle.hub_history.specs.State.{Repository, State}
use Rattle.hub.specs.Hub.{HubView, state_of}
use Rattle.hub.specs.Names.{inserted_all}
use Rattle.hub.proofs.LookLemmas.{inserted-map_of}
use Rattle.hub.proofs.hub.Hub.in_order.Goals as goal

pub loop-name-preserved-in_ok-insert : goal.loop-name-preserved-in_ok-insert
loop-name-preserved-in_ok-insert c = record {
  ordered = c.in_ok-insert.ensures.ordered;
  all =
      ap (λ (m : ByName Repository). inserted_all m c.next.new.self)
      (insert-entries c.loop-name.sorted c.insert.new.self c.in_ok-clone.field-0 c.in_ok-clone-2.field-0 c.in_ok-insert.ensures.updates
      ∙ ap₂ (insert (from_entries c.loop-name.sorted.entries)) c.in_ok-clone.ensures.cases c.in_ok-clone-2.ensures.cases)
      ∙ ap (inserted_all (from_entries c.loop-name.sorted.entries)) (sym c.in-Some.ensures.steps)
      ∙ c.loop-name.invariant.all;
}

pub loop-name-preserved : goal.loop-name-preserved
loop-name-preserved c = record {
  ordered = c.in_ok-insert.ensures.ordered;
  all =
      ap (λ (m : ByName Repository). inserted_all m c.next.new.self)
      (insert-entries c.loop-name.sorted c.insert.new.self c.in_ok-clone.field-0 c.in_ok-clone-2.field-0 c.in_ok-insert.ensures.updates
      ∙ ap₂ (insert (from_entries c.loop-name.sorted.entries)) c.in_ok-clone.ensures.cases c.in_ok-clone-2.ensures.cases)
      ∙ ap (inserted_all (from_entries c.loop-name.sorted.entries)) (sym c.in-Some.ensures.steps)
      ∙ c.loop-name.invariant.all;
}

pub returns-clause-ordered : goal.returns-clause-ordered
returns-clause-ordered c = c.loop-name.invariant.ordered

pub returns-clause-all : goal.returns-clause-all
returns-clause-all c =
    sym (ap (inserted_all (from_entries c.loop-name.sorted.entries)) c.in-None.ensures.steps.0)
    ∙ c.loop-name.invariant.all
    ∙ ap (inserted_all empty) (c.into_iter-name-iterator.ensures.into_iter_gives ∙ c.iter-name-items.ensures.rest)
    ∙ inserted-map_of c.self.inside.repositories.entries.entries c.iter-name-items.ensures.unique
    ∙ ap (λ (s : State). s.repositories) c.self.invariant.1
    ∙ ap (λ (v : HubView). (state_of v).repositories) c.self.view_is
