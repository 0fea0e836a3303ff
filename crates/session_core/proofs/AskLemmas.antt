-- A call that gives a value, to which the offset behind a packet is added.
use Rattle.std.proofs.Common.{ℕ, Result, Ok, Err}
use Rattle.pktline_core.specs.LinkState.{LinkState}
use Rattle.hub.specs.Desk.{DeskView}
use Rattle.interaction_tree.specs.Interaction.{Interaction, gives, ◌>>=◌}
use Rattle.interaction_tree.specs.Runs.{Runs}
use Rattle.interaction_tree.proofs.RunLemmas.{runs_bind, runs_gives, runs_halts}
use Rattle.session_core.specs.declared.end.SessionEnd.{SessionEnd}
use Rattle.session_core.specs.End.{halt_of, outcome_at, outcome_of}

pub value_then : {A : Type 0} (a b : LinkState) (d : DeskView) (t : Interaction SessionEnd A) (offset : ℕ) (result : Result A SessionEnd) → Runs a b d d t (outcome_of result) → Runs a b d d (t >>= λ x. gives (x, offset)) (outcome_at result offset)
value_then a b d t offset (Ok x) ran = runs_bind a b b d d d t x (λ x. gives (x, offset)) (Ok (x, offset)) ran (runs_gives b d (x, offset))
value_then a b d t offset (Err end) ran = runs_halts a b d d t (λ x. gives (x, offset)) (halt_of end) ran
