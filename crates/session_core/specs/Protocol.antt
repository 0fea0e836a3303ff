-- What a protocol says of a link that was served.
use Rattle.std.specs.Prelude.{◌↔◌, Bool, List}
use Rattle.pktline_core.specs.LinkState.{LinkState}
use Rattle.ref_store.specs.Refs.{Name}
use Rattle.interaction_tree.specs.Requests.{OwnEntry}
use Rattle.interaction_tree.specs.Traces.{Halt}
use Rattle.session_core.specs.declared.end.SessionEnd.{SessionEnd}
use Rattle.session_core.specs.End.{HaltIsSure, IsSure, halt_of}
use Rattle.session_core.specs.Rulebook.{Rulebook}

-- E: how serving a link ends
-- halt: how the protocol's interaction was left, by the end
-- takes: What was read of the link, what was written to it, and the entries that were made in between are a
-- turn of the protocol with this end, by these rules, at a hub of this admin's setup.
-- tells: no failure of the link is hidden by the end
-- lacks: whether the link was served no further because memory ran out
pub record Meaning (E : Type 0) : Type 1 where
  pub halt : E → Halt E
  pub takes : Rulebook → Name → LinkState → LinkState → List OwnEntry → E → Type 0
  pub tells : LinkState → LinkState → E → Type 0
  pub lacks : E → Bool

-- ---- a law

-- what is sure of a session's end is what is sure of any protocol's
abbrev pub SureByHalt : Type 0
SureByHalt = (old new : LinkState) (end : SessionEnd) → IsSure old new end ↔ HaltIsSure old new (halt_of end)
