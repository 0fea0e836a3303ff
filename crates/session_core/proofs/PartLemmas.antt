-- A part of a session takes its turn, as a session that ends behind it.
use Rattle.std.proofs.Common.{◌≡◌, [], Result, Ok, Err, false, sym, subst}
use Rattle.std.specs.Bool.{⊤}
use Rattle.pktline_core.specs.LinkState.{LinkState}
use Rattle.ref_store.specs.Refs.{Name}
use Rattle.hub.specs.Desk.{DeskView}
use Rattle.interaction_tree.specs.Interaction.{Interaction, ends}
use Rattle.interaction_tree.specs.Traces.{Ended, Halt}
use Rattle.interaction_tree.specs.Order.{EntriesFirst, IsOrdered}
use Rattle.interaction_tree.specs.Runs.{Runs}
use Rattle.interaction_tree.specs.Endings.{TakesTurn}
use Rattle.interaction_tree.specs.Growth.{own_since}
use Rattle.interaction_tree.proofs.EndingLemmas.{runs_turn}
use Rattle.interaction_tree.proofs.OrderLemmas.{order_then}
use Rattle.interaction_tree.proofs.RunLemmas.{runs_bind, runs_ends, runs_halts}
use Rattle.session_core.specs.declared.end.SessionEnd.{SessionEnd}
use Rattle.session_core.specs.End.{halt_of, outcome_of}
use Rattle.session_core.specs.Parts.{end_of, ending_so}
use Rattle.session_core.specs.Rulebook.{ByRulebook, IsRulebook, Rulebook, RunsByRulebook}
use Rattle.session_core.proofs.RulebookLemmas.{bind_by, halts_by, made_on, runs_always, runs_by}

module _ {A : Type 0} (end_as : A → SessionEnd) where
  order_ending : (t : Interaction SessionEnd A) → IsOrdered t → IsOrdered (ending_so end_as t)
  unfolding EntriesFirst
  order_ending t ordered = order_then false t (λ value. ends (end_as value)) (λ w a. ⊤) (λ w a. ⊤) ordered (λ w a all. tt)

  -- the value stands for an end that an interaction gives
  abbrev StandsForEnds : Type 0
  StandsForEnds = (value : A) → halt_of (end_as value) ≡ Ended (end_as value)

  module _ (stands : StandsForEnds) (a b : LinkState) where
    module _ (d e : DeskView) (t : Rulebook → Interaction SessionEnd A) where
      part_ends : (result : Result A SessionEnd) → RunsByRulebook a b d e t (outcome_of result) → RunsByRulebook a b d e (λ book. ending_so end_as (t book)) (Err (halt_of (end_of end_as result)))
      part_ends (Ok value) ran =
          subst (λ (halt : Halt SessionEnd). RunsByRulebook a b d e (λ book. ending_so end_as (t book)) (Err halt)) (sym (stands value))
          (bind_by a b d e t (λ book value. ends (end_as value)) b e value (Err (Ended (end_as value))) ran (runs_always b b e e (ends (end_as value)) (Err (Ended (end_as value))) (runs_ends b e (end_as value))))
      part_ends (Err end) ran = halts_by a b d e t (λ book value. ends (end_as value)) (halt_of end) ran

      -- a part that goes by the rules
      pub part_turn : (result : Result A SessionEnd) → ((book : Rulebook) → IsOrdered (t book)) → RunsByRulebook a b d e t (outcome_of result)
          → ByRulebook d.admin e.seen (λ book. TakesTurn a b (own_since d e) (ending_so end_as (t book)) (halt_of (end_of end_as result)))
      part_turn result ordered ran = λ book of.
          let halt = halt_of (end_of end_as result) in
          runs_turn a b d e (ending_so end_as (t book)) halt (order_ending (t book) (ordered book))
          (runs_by a b d e (λ book. ending_so end_as (t book)) (Err halt) book (subst (λ (n : Name). IsRulebook n e.seen book) (sym (made_on d e ran.own ran.made).0) of) (part_ends result ran))

    module _ (t : Interaction SessionEnd A) where
      alone_ends : (d : DeskView) (result : Result A SessionEnd) → Runs a b d d t (outcome_of result) → Runs a b d d (ending_so end_as t) (Err (halt_of (end_of end_as result)))
      alone_ends d (Ok value) ran =
          subst (λ (halt : Halt SessionEnd). Runs a b d d (ending_so end_as t) (Err halt)) (sym (stands value))
          (runs_bind a b b d d d t value (λ value. ends (end_as value)) (Err (Ended (end_as value))) ran (runs_ends b d (end_as value)))
      alone_ends d (Err end) ran = runs_halts a b d d t (λ value. ends (end_as value)) (halt_of end) ran

      -- a part that goes by no rules, and makes no entry
      pub part_alone : (result : Result A SessionEnd) → IsOrdered t → ((desk : DeskView) → Runs a b desk desk t (outcome_of result)) → TakesTurn a b [] (ending_so end_as t) (halt_of (end_of end_as result))
      part_alone result ordered ran =
          let nobody : DeskView = record { admin = []; caller = 0; start = 0; seen = []; alone = false } in
          runs_turn a b nobody nobody (ending_so end_as t) (halt_of (end_of end_as result)) (order_ending t ordered) (alone_ends nobody result (ran nobody))
