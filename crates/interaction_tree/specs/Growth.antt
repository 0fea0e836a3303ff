-- What a session leaves of its desk.
use Rattle.std.specs.Prelude.{◌≡◌, List, ◌++◌, length, map}
use Rattle.hub_history.specs.declared.entry.Entry.{Entry}
use Rattle.hub.specs.Desk.{DeskView, mine}
use Rattle.interaction_tree.specs.Requests.{OwnEntry, own_in, entry_of}
use Rattle.interaction_tree.specs.Runs.{MakesAll}

-- The entries that a caller made since an earlier view of the log: those from where that ended on that bear
-- its number, each with the log just before it.
abbrev pub own_since : DeskView → DeskView → List OwnEntry
own_since old new = own_in old.caller (length old.seen) new.seen

-- These entries were made, one after the other. What the caller has seen goes on from what it had seen, and
-- nothing else of its view has changed. Its own entries are those that it had, and behind them these.
pub record GrowsBy (old new : DeskView) (own : List OwnEntry) : Type 0 where
  pub made : MakesAll old new own
  pub more : List Entry
  pub new_is : new ≡ record old { seen = old.seen ++ more }
  pub own_is : own ≡ own_since old new
  pub mine_is : mine new ≡ mine old ++ map entry_of own
