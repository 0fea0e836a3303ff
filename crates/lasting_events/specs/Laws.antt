-- Laws of the entries that last.
use Rattle.std.specs.Prelude.{◌≡◌, ℕ, ◌≤◌, false, List, [], ◌∷◌, ◌++◌, length, take, Some}
use Rattle.ref_store.specs.Refs.{Name}
use Rattle.hub_history.specs.declared.entry.Entry.{Entry}
use Rattle.hub_history.specs.History.{IsLegal, history, opening_at, replay}
use Rattle.hub_history.specs.Opening.{Pinned}
use Rattle.lasting_events.specs.Lasting.{IsChosen, if_lasting, lasting, lasts, place_among}

-- The lasting entries of a legal log are a legal log, with the answers that they had, and lead to the same
-- state. What the opening at the place of one of them pinned, it pins at the new place.
pub record LastingIsEnough : Type 0 where
  pub legal : (admin : Name) (log : List Entry) (start : ℕ) → start ≤ length log → IsLegal admin log → IsLegal admin (lasting start log)
  pub state : (admin : Name) (log : List Entry) (start : ℕ) → start ≤ length log → IsLegal admin log → replay admin (lasting start log) ≡ replay admin log
  pub pins :
      (admin : Name) (log : List Entry) (start place : ℕ) (pinned : Pinned) → start ≤ length log → IsLegal admin log → IsChosen start log place
      → opening_at (history admin log) place ≡ Some pinned → opening_at (history admin (lasting start log)) (place_among start log place) ≡ Some pinned

-- The lasting entries of a beginning of a log are a beginning of those of the log.
abbrev pub BeginningLasts : Type 0
BeginningLasts = (log : List Entry) (start count : ℕ) → start ≤ count → count ≤ length log → (later : List Entry) × (lasting start log ≡ lasting start (take count log) ++ later)

-- One entry more is one more of them where it lasts, and else none.
abbrev pub LastingGrows : Type 0
LastingGrows = (log : List Entry) (entry : Entry) (start : ℕ) → start ≤ length log → lasting start (log ++ entry ∷ []) ≡ lasting start log ++ if_lasting start log entry

-- The first entries are as they were.
abbrev pub FirstStay : Type 0
FirstStay = (log : List Entry) (start : ℕ) → start ≤ length log → lasting start (take start log) ≡ take start log

-- An entry that doesn't last changes nothing.
abbrev pub OthersChangeNothing : Type 0
OthersChangeNothing =
    (admin : Name) (before : List Entry) (entry : Entry) → IsLegal admin (before ++ entry ∷ []) → lasts entry.event ≡ false → replay admin (before ++ entry ∷ []) ≡ replay admin before
