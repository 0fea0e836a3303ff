-- What code does that runs an interaction over a link and a desk.
use Rattle.std.specs.Prelude.{◌≡◌, ⊤, ℕ, ◌+◌, List, [], ◌∷◌, length, IsTrue, Result, Ok, Err}
use Rattle.std.specs.Io.KnownBytes.{Consumes, Appends}
use Rattle.base_types.specs.Counts.{HasRisen}
use Rattle.pktline_core.specs.LinkState.{LinkState}
use Rattle.pktline_core.specs.Links.{IsLater, KeepsReading, KeepsWriting, Writes}
use Rattle.pktline_core.specs.declared.links.WriteFault.{WriteFault}
use Rattle.hub.specs.Desk.{DeskView, MakesEntry}
use Rattle.interaction_tree.specs.Requests.{OwnEntry}
use Rattle.interaction_tree.specs.Interaction.{Interaction}
use Rattle.interaction_tree.specs.Traces.{Reading, Writing, Memory, Halt, Ended, Failed, IsTrace}

-- these entries were made, one after the other
abbrev pub MakesAll : DeskView → DeskView → List OwnEntry → Type 0
MakesAll old new [] = new ≡ old
MakesAll old new (one ∷ own) = (mid : DeskView) × MakesEntry old mid one.before one.entry × MakesAll mid new own

-- A failure of the link comes only where the link may fail and its count rose.
abbrev pub IsCaused : {E A : Type 0} → LinkState → LinkState → Result A (Halt E) → Type 0
IsCaused old new (Ok a) = ⊤
IsCaused old new (Err (Ended e)) = ⊤
IsCaused old new (Err (Failed Reading)) = HasRisen old.read_faults new.read_faults × IsTrue old.may_fail
IsCaused old new (Err (Failed Writing)) = HasRisen old.write_faults new.write_faults × IsTrue old.may_fail
IsCaused old new (Err (Failed Memory)) = ⊤

-- From a link and a desk to what they are afterwards, with this outcome. It holds over links that tell
-- nothing as well.
pub record Runs {E A : Type 0} (link link' : LinkState) (desk desk' : DeskView) (t : Interaction E A) (out : Result A (Halt E)) : Type 0 where
  pub read : List ℕ
  pub written : List ℕ
  pub own : List OwnEntry
  pub consumed : Consumes link.left link'.left read
  pub counted : link'.given ≡ link.given + length read
  pub appended : Appends link.written link'.written written
  pub made : MakesAll desk desk' own
  pub trace : IsTrace link'.left out t read written own
  pub later : IsLater link link'
  pub caused : IsCaused link link' out

-- These bytes were taken, and nothing was written.
pub record TakesOnly (old new : LinkState) (taken : List ℕ) : Type 0 where
  pub consumed : Consumes old.left new.left taken
  pub counted : new.given ≡ old.given + length taken
  pub keeps : KeepsWriting old new
  pub later : IsLater old new

-- These bytes were written, or a beginning of them, and nothing was taken.
pub record WritesOnly (old new : LinkState) (bytes : List ℕ) (result : Result (Unit {0}) WriteFault) : Type 0 where
  pub writes : Writes old new bytes result
  pub keeps : KeepsReading old new
  pub later : IsLater old new
