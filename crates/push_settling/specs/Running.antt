-- Steps of running the commands of a push.
use Rattle.std.specs.Prelude.{◌≡◌, true, false, List, [], ◌∷◌, Option, None, Some, IfSome}
use Rattle.git_object.specs.Content.{Content}
use Rattle.ref_store.specs.RefName.{is_ref_name}
use Rattle.ref_store.specs.declared.repo.Compared as compared
use Rattle.ref_store.specs.declared.repo.Compared.TheVariants as beside
use Rattle.ref_store.specs.declared.command.Command.{Command}
use Rattle.hub_history.specs.declared.outcome.Outcome.{Outcome}
use Rattle.hub_history.specs.Push.{is_done}

-- it refuses the command, or the command has a name that a ref may have
abbrev pub FitsCommand : Command → Option Outcome → Type 0
FitsCommand c None = is_ref_name c.name ≡ true
FitsCommand c (Some outcome) = is_done outcome ≡ false

abbrev pub FitCommands : List Command → List (Option Outcome) → Type 0
FitCommands [] judgements = Unit {0}
FitCommands (c ∷ cs) [] = Unit {0}
FitCommands (c ∷ cs) (j ∷ js) = FitsCommand c j × FitCommands cs js

-- the segments that are prepared, if any are, are those of these objects
abbrev pub IsReadyFor : List Content → compared.Compared → Type 0
IsReadyFor objects (beside.Fresh fresh) = IfSome fresh.before (λ before. before ≡ objects)
IsReadyFor objects (beside.Collision id kept given) = Unit {0}
IsReadyFor objects (beside.Full count) = Unit {0}
IsReadyFor objects beside.NoMemory = Unit {0}
