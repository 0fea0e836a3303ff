-- A link whose input ends after so many bytes.
use Rattle.std.specs.Prelude.{◌≡◌, refl, ℕ, ◌+◌, Bool, true, false, List, take, drop, Option, Some, None}
use Rattle.std.specs.Option.{is_some, option_map}
use Rattle.std.specs.Io.KnownBytes.{Consumes}
use Rattle.std.specs.Borrow.{GName}
use Rattle.pktline_core.specs.LinkState.{LinkState, Limited}

-- the bytes behind the first so many, where the link goes on telling
abbrev pub held_back : Bool → ℕ → Option (List ℕ) → Option (List ℕ)
held_back true most left = option_map (drop most) left
held_back false most left = None

-- The link behind the reference of this name, with the first so many of the bytes that it has left. The
-- others are held back.
abbrev pub limited : GName → ℕ → LinkState → LinkState
limited name most link = record link { left = option_map (take most) link.left; limits = Limited name (held_back link.tells most link.left) (link.given + most) link.limits }

-- Where a link tells its bytes, so does the limited one.
pub first_told : (most : ℕ) (left : Option (List ℕ)) → is_some left ≡ true → is_some (option_map (take most) left) ≡ true
first_told most None told = told
first_told most (Some bytes) told = refl

-- So many bytes were taken from the link into the front of the room, if it goes on telling.
abbrev pub TakesOf : LinkState → LinkState → List ℕ → Type 0
TakesOf old new room = (n : ℕ) × (new.given ≡ old.given + n) × (old.tells ≡ true → Consumes old.left new.left (take n room))
