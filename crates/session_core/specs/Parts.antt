-- A part of a session: that it was run over the link, and what it is as a session that ends behind it.
use Rattle.std.specs.Prelude.{ℕ, Result, Ok, Err}
use Rattle.pktline_core.specs.LinkState.{LinkState}
use Rattle.hub.specs.Desk.{DeskView}
use Rattle.interaction_tree.specs.Interaction.{Interaction, ends, ◌>>=◌}
use Rattle.interaction_tree.specs.Runs.{Runs}
use Rattle.session_core.specs.declared.end.SessionEnd.{SessionEnd}
use Rattle.session_core.specs.End.{halt_of, outcome_at, outcome_of}

-- I. Over a link alone: whatever its caller knows of the hub, that stays as it is

-- it was run with this result
abbrev pub RunsLink : {A : Type 0} → LinkState → LinkState → Interaction SessionEnd A → Result A SessionEnd → Type 0
RunsLink old new part result = (desk : DeskView) → Runs old new desk desk part (outcome_of result)

-- the same, with the offset up to which it read
abbrev pub RunsLinkAt : {A : Type 0} → LinkState → LinkState → Interaction SessionEnd (A × ℕ) → Result A SessionEnd → ℕ → Type 0
RunsLinkAt old new part result offset = (desk : DeskView) → Runs old new desk desk part (outcome_at result offset)

-- it was run up to this end
abbrev pub EndsLink : {A : Type 0} → LinkState → LinkState → Interaction SessionEnd A → SessionEnd → Type 0
EndsLink old new part end = (desk : DeskView) → Runs old new desk desk part (Err (halt_of end))

-- II. As a session

-- the part, and the end that its value stands for
abbrev pub ending_so : {A : Type 0} → (A → SessionEnd) → Interaction SessionEnd A → Interaction SessionEnd (Unit {0})
ending_so end_as part = do
  value ← part
  ends (end_as value)

-- what the part answers, as an end
abbrev pub end_of : {A : Type 0} → (A → SessionEnd) → Result A SessionEnd → SessionEnd
end_of end_as (Ok value) = end_as value
end_of end_as (Err end) = end
