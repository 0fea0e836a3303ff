-- At which openings a session calls its gate.
use Rattle.std.specs.Prelude.{◌≡◌, ℕ, List, [], ◌∷◌, ◌++◌, length, map, Bool, true, false, Option, Result, Ok, Err, if◌then◌else◌}
use Rattle.std.specs.Option.{option_map}
use Rattle.hub_history.specs.declared.entry.EnterKept.{EnterKept}
use Rattle.hub_history.specs.declared.entry.EnterKept.TheVariants.{Granted, Created, Denied, NoRepo}
use Rattle.hub_history.specs.Opening.{Opening}
use Rattle.hub.specs.Desk.{DeskView}
use Rattle.interaction_tree.specs.Requests.{OwnEntry}
use Rattle.interaction_tree.specs.Runs.{MakesAll}
use Rattle.session_core.specs.declared.end.SessionEnd.{SessionEnd}
use Rattle.session_core.specs.Opening.{recorded_answer}

-- place: the place in the log of the opening behind which the gate is called
-- written: what had been written to the session's link by then, where the link tells it
pub record GateCall : Type 0 where
  pub place : ℕ
  pub written : Option (List ℕ)

-- a gate that tells its calls was called so since, and no other time
abbrev pub IsCalled : Option (List GateCall) → Option (List GateCall) → List GateCall → Type 0
IsCalled old new calls = new ≡ option_map (λ before. before ++ calls) old

-- it lets the user in; a repository that was made is the user's
abbrev pub lets_in : EnterKept → Bool
lets_in Granted = true
lets_in Created = true
lets_in (Denied verdict) = false
lets_in NoRepo = false

-- the place of an entry, where it is an opening that lets its user in
abbrev pub place_let_in : OwnEntry → List ℕ
place_let_in own = if lets_in (recorded_answer own.entry.event) then length own.before ∷ [] else []

-- the places of those among a session's own entries
abbrev pub places_let_in : List OwnEntry → List ℕ
places_let_in [] = []
places_let_in (one ∷ own) = place_let_in one ++ places_let_in own

-- The calls of the gate that these entries ask for: one for each opening that lets its user in, with its
-- place, and each before more is written.
abbrev pub gate_calls : Option (List ℕ) → List OwnEntry → List GateCall
gate_calls written own = map (λ place. record { place = place; written = written }) (places_let_in own)

-- The caller made entries from one view of the log to the next, and was let in by those at these places.
pub record LetsIn (old new : DeskView) (places : List ℕ) : Type 0 where
  pub own : List OwnEntry
  pub made : MakesAll old new own
  pub places_are : places_let_in own ≡ places

-- the place at which an opening let its user in, where it did
abbrev pub place_entered : Result Opening SessionEnd → List ℕ
place_entered (Ok opening) = opening.place ∷ []
place_entered (Err end) = []

-- A part of a session before which this was written made entries, and called its gate as they ask for.
pub record CallsGate (old new : DeskView) (calls calls' : Option (List GateCall)) (written : Option (List ℕ)) : Type 0 where
  pub own : List OwnEntry
  pub made : MakesAll old new own
  pub called : IsCalled calls calls' (gate_calls written own)
