-- What is asked of a hub: an event without its answer.
use Rattle.std.specs.Prelude.{ℕ, Bool, List}
use Rattle.git_object.specs.Content.{Content}
use Rattle.ref_store.specs.Refs.{Name}
use Rattle.ref_store.specs.declared.command.Command.{Command}
use Rattle.access_check.specs.declared.verdicts.Want.{Want}
use Rattle.hub_history.specs.declared.entry.Event.{Event}
use Rattle.hub_history.specs.declared.entry.Event.TheVariants.{Entered, Pushed, Permitted, Looked}
use Rattle.hub_history.specs.declared.entry.PermChange.{PermChange}

-- an event without its answer
pub data Request : Type 0 where
  -- a user opens a repository
  Enter : (user repo : Name) (want : Want) → Request
  -- a push is settled, after the opening at this place
  Push : (place : ℕ) (pack : List Content) (commands : List Command) (atomic : Bool) → Request
  -- a user changes the roles of a repository, or lists them
  Permit : (user repo : Name) (change : PermChange) → Request
  -- a user lists what there is to see
  Look : (user : Name) → Request

abbrev pub request_of : Event → Request
request_of (Entered user repo want answer) = Enter user repo want
request_of (Pushed place pack commands atomic outcomes made) = Push place pack commands atomic
request_of (Permitted user repo change answer) = Permit user repo change
request_of (Looked user) = Look user
