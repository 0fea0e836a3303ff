-- A pass of a shared hub as a desk.
use Rattle.std.specs.Prelude.{◌≡◌, length, false}
use Rattle.turn_lock.specs.Lock.{PassState}
use Rattle.hub.specs.Desk.{DeskView, KeepsPins, Pushes}
use Rattle.shared_hub.specs.declared.kept.KeptEntry.{KeptEntry}
use Rattle.shared_hub.specs.declared.steps.Asked.{Asked}
use Rattle.shared_hub.specs.declared.steps.PushTurn.{PushTurn}
use Rattle.shared_hub.specs.declared.steps.PushTurn.TheVariants.{Settled, Again}
use Rattle.shared_hub.specs.Kept.{admin_in}
use Rattle.shared_hub.specs.Shared.{log_at_new, log_seen}

-- its entries bear the number of the pass, and are its own from the end of the log at `new` on
abbrev pub desk_of : {H : Type 0} → PassState (KeptEntry H) → DeskView
desk_of pass = record { admin = admin_in pass.at_new; caller = pass.caller; start = length (log_at_new pass); seen = log_seen pass; alone = false }

-- what a turn of a push did: it was settled; or the pass is as it was, and the push came back
abbrev pub EndsTurn : {H : Type 0} → PassState (KeptEntry H) → PassState (KeptEntry H) → Asked → PushTurn → Type 0
EndsTurn old new asked (Settled pushed) = Pushes (desk_of old) (desk_of new) asked.pin asked.request.pack asked.request.commands asked.request.atomic pushed × KeepsPins (desk_of old) (desk_of new)
EndsTurn old new asked (Again back wild) = (new ≡ old) × (back ≡ asked)
