-- The only caller of a hub, as contracts see it.
use Rattle.std.specs.Prelude.{◌≡◌}
use Rattle.hub.specs.declared.desk.LoneDesk.{LoneDesk}
use Rattle.hub.specs.Desk.{DeskView, known_alone}

abbrev pub desk_of : LoneDesk → DeskView
desk_of desk = known_alone desk.start desk.hub

-- its own entries begin where they began, and its hub is one of the same admin
abbrev pub GoesOn : LoneDesk → LoneDesk → Type 0
GoesOn old new = (new.start ≡ old.start) × (new.hub.admin ≡ old.hub.admin)
