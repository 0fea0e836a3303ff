-- What a hub answers, and the logs that agree with it.
use Rattle.std.proofs.Common.{◌≡◌, List, [], ◌∷◌, ◌++◌, length, Option, None, Some, refl, sym, ◌∙◌, ap, append_assoc}
use Rattle.std.specs.List.{slice_get}
use Rattle.hub_history.specs.declared.entry.Entry.{Entry}
use Rattle.hub_history.specs.declared.entry.EnterKept.TheVariants.{NoRepo}
use Rattle.hub_history.specs.declared.entry.Event.{Event}
use Rattle.hub_history.specs.declared.entry.Event.TheVariants.{Entered, Pushed, Permitted, Looked}
use Rattle.hub_history.specs.declared.entry.PermsKept.TheVariants.{NotWild}
use Rattle.hub_history.specs.Requests.{Request, Enter, Push, Permit, Look, request_of}
use Rattle.interaction_tree.specs.Requests.{Answers, Agrees}

-- a beginning of a log
pub agrees_front : (answers : Answers) (log more : List Entry) → Agrees answers (log ++ more) → Agrees answers log
agrees_front answers log more agrees before entry rest is =
    agrees before entry (rest ++ more) (ap (λ (l : List Entry). l ++ more) is ∙ append_assoc before (entry ∷ rest) more)

-- ---- answers that a log records

-- some event for this request
some_answer : Request → Event
some_answer (Enter user repo want) = Entered user repo want NoRepo
some_answer (Push place pack commands atomic) = Pushed place pack commands atomic [] []
some_answer (Permit user repo change) = Permitted user repo change NotWild
some_answer (Look user) = Looked user

-- an event for this request; its answer is that of the event, where that is of the same kind
answered_as : Event → Request → Event
answered_as (Entered user repo want answer) (Enter user' repo' want') = Entered user' repo' want' answer
answered_as (Pushed place pack commands atomic outcomes made) (Push place' pack' commands' atomic') = Pushed place' pack' commands' atomic' outcomes made
answered_as (Permitted user repo change answer) (Permit user' repo' change') = Permitted user' repo' change' answer
answered_as event request = some_answer request

-- the same by an entry, if there is one
answered_by : Option Entry → Request → Event
answered_by None request = some_answer request
answered_by (Some entry) request = answered_as entry.event request

-- what a log records at the place behind another
logged_answers : List Entry → Answers
logged_answers log before request = answered_by (slice_get log (length before)) request

event_again : (event : Event) → answered_as event (request_of event) ≡ event
unfolding answered_as some_answer
event_again (Entered user repo want answer) = refl
event_again (Pushed place pack commands atomic outcomes made) = refl
event_again (Permitted user repo change answer) = refl
event_again (Looked user) = refl

some_asked : (request : Request) → request_of (some_answer request) ≡ request
unfolding some_answer
some_asked (Enter user repo want) = refl
some_asked (Push place pack commands atomic) = refl
some_asked (Permit user repo change) = refl
some_asked (Look user) = refl

as_asked : (event : Event) (request : Request) → request_of (answered_as event request) ≡ request
unfolding answered_as
as_asked (Entered user repo want answer) (Enter user' repo' want') = refl
as_asked (Entered user repo want answer) (Push place pack commands atomic) = some_asked (Push place pack commands atomic)
as_asked (Entered user repo want answer) (Permit user' repo' change) = some_asked (Permit user' repo' change)
as_asked (Entered user repo want answer) (Look user') = some_asked (Look user')
as_asked (Pushed place pack commands atomic outcomes made) (Enter user repo want) = some_asked (Enter user repo want)
as_asked (Pushed place pack commands atomic outcomes made) (Push place' pack' commands' atomic') = refl
as_asked (Pushed place pack commands atomic outcomes made) (Permit user repo change) = some_asked (Permit user repo change)
as_asked (Pushed place pack commands atomic outcomes made) (Look user) = some_asked (Look user)
as_asked (Permitted user repo change answer) (Enter user' repo' want) = some_asked (Enter user' repo' want)
as_asked (Permitted user repo change answer) (Push place pack commands atomic) = some_asked (Push place pack commands atomic)
as_asked (Permitted user repo change answer) (Permit user' repo' change') = refl
as_asked (Permitted user repo change answer) (Look user') = some_asked (Look user')
as_asked (Looked user) (Enter user' repo want) = some_asked (Enter user' repo want)
as_asked (Looked user) (Push place pack commands atomic) = some_asked (Push place pack commands atomic)
as_asked (Looked user) (Permit user' repo change) = some_asked (Permit user' repo change)
as_asked (Looked user) (Look user') = some_asked (Look user')

by_asked : (entry : Option Entry) (request : Request) → request_of (answered_by entry request) ≡ request
unfolding answered_by
by_asked None request = some_asked request
by_asked (Some entry) request = as_asked entry.event request

entry_behind : (before : List Entry) (entry : Entry) (more : List Entry) → slice_get (before ++ entry ∷ more) (length before) ≡ Some entry
entry_behind [] entry more = refl
entry_behind (e ∷ before) entry more = entry_behind before entry more

recorded : (log before : List Entry) (entry : Entry) (more : List Entry) → log ≡ before ++ entry ∷ more → entry.event ≡ logged_answers log before (request_of entry.event)
unfolding logged_answers answered_by
recorded log before entry more is =
    sym (event_again entry.event)
    ∙ ap (λ (e : Option Entry). answered_by e (request_of entry.event)) (sym (entry_behind before entry more) ∙ ap (λ (l : List Entry). slice_get l (length before)) (sym is))

-- for every log there are answers that agree with it, and are for what is asked
pub logged : (log : List Entry) → (answers : Answers) × Agrees answers log × ((before : List Entry) (request : Request) → request_of (answers before request) ≡ request)
unfolding logged_answers
logged log = (logged_answers log, λ before entry more is. recorded log before entry more is, λ before request. by_asked (slice_get log (length before)) request)
