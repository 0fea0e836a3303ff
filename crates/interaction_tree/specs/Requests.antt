-- Entries of the log, as a session makes them and a hub answers.
use Rattle.std.specs.Prelude.{◌≡◌, ℕ, nat_eq, List, [], ◌∷◌, ◌++◌, take, drop, if◌then◌else◌}
use Rattle.hub_history.specs.declared.entry.Entry.{Entry}
use Rattle.hub_history.specs.declared.entry.Event.{Event}
use Rattle.hub_history.specs.Requests.{Request, request_of}

-- what a hub answers: the event that a request brings about behind a log
abbrev pub Answers : Type 0
Answers = List Entry → Request → Event

-- Answers agree with a log: each of its entries is what they give behind the log before it, for its request.
abbrev pub Agrees : Answers → List Entry → Type 0
Agrees answers log = (before : List Entry) (entry : Entry) (more : List Entry) → log ≡ before ++ entry ∷ more → entry.event ≡ answers before (request_of entry.event)

-- what holds where a hub answers as a log records: it holds of all answers that agree with the log
abbrev pub AsLogged : List Entry → (Answers → Type 0) → Type 0
AsLogged log holds = (answers : Answers) → Agrees answers log → holds answers

-- an entry that a session made, and the log just before it
pub record OwnEntry : Type 0 where
  pub before : List Entry
  pub entry : Entry

-- the entries behind a log that bear a number, each with the log just before it
abbrev pub own_behind : ℕ → List Entry → List Entry → List OwnEntry
own_behind caller before [] = []
own_behind caller before (e ∷ es) =
    if nat_eq e.caller caller
    then record { before = before; entry = e } ∷ own_behind caller (before ++ e ∷ []) es
    else own_behind caller (before ++ e ∷ []) es

-- those of a log from a place on
abbrev pub own_in : ℕ → ℕ → List Entry → List OwnEntry
own_in caller place log = own_behind caller (take place log) (drop place log)

abbrev pub asked : OwnEntry → Request
asked own = request_of own.entry.event

abbrev pub entry_of : OwnEntry → Entry
entry_of own = own.entry
