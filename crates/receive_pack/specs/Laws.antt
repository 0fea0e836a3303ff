-- Laws of a push, as an interaction.
use Rattle.std.specs.Prelude.{ℕ}
use Rattle.hub_history.specs.Opening.{Opening}
use Rattle.interaction_tree.specs.Order.{IsOrdered}
use Rattle.session_core.specs.Rulebook.{Rulebook}
use Rattle.receive_pack.specs.Receiving.{commanding, receiving}

-- What follows an opening for writing makes its entry before it writes of it, as does its second part alone.
abbrev pub PushesAreOrdered : Type 0
PushesAreOrdered = (book : Rulebook) (opening : Opening) (offset : ℕ) → IsOrdered (receiving book opening offset) × IsOrdered (commanding book opening offset)
