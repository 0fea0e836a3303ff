-- What a pass has seen of a shared hub.
use Rattle.std.specs.Prelude.{ℕ, List, length}
use Rattle.turn_lock.specs.Lock.{PassState, seen}
use Rattle.hub_history.specs.declared.entry.Entry.{Entry}
use Rattle.hub_history.specs.History.{IsLegal}
use Rattle.hub.specs.Desk.{entries_of}
use Rattle.shared_hub.specs.declared.kept.KeptEntry.{KeptEntry}
use Rattle.shared_hub.specs.Kept.{NamesAdmin, admin_in, log_in}

-- the log at `new`
abbrev pub log_at_new : {H : Type 0} → PassState (KeptEntry H) → List Entry
log_at_new pass = log_in pass.at_new

-- the log, as far as the pass has seen it
abbrev pub log_seen : {H : Type 0} → PassState (KeptEntry H) → List Entry
log_seen pass = log_in (seen pass)

-- the entries of a number past the log at `new`, as far as the pass has seen them
abbrev pub entries_seen : {H : Type 0} → ℕ → PassState (KeptEntry H) → List Entry
entries_seen n pass = entries_of n (length (log_at_new pass)) (log_seen pass)

-- the first item that the pass has seen names the admin, and what follows is legal from that setup
pub record IsHubPass {H : Type 0} (pass : PassState (KeptEntry H)) : Type 0 where
  pub admin : NamesAdmin pass.at_new
  pub legal : IsLegal (admin_in pass.at_new) (log_seen pass)
