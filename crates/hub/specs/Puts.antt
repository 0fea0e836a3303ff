-- The conf that a push puts in force.
use Rattle.std.specs.Prelude.{◌&&◌, List, [], ◌∷◌, Option, None, Some, if◌then◌else◌}
use Rattle.std.specs.Option.{option_map}
use Rattle.ref_store.specs.Refs.{Name}
use Rattle.ref_store.specs.declared.command.Command.{Command}
use Rattle.hub_history.specs.declared.outcome.Outcome.{Outcome}
use Rattle.hub_history.specs.Push.{is_done, is_of_conf}
use Rattle.hub_history.specs.State.{CommitAmong, Conf}

-- the conf of a hub at a commit
abbrev pub conf_with : Name → CommitAmong → Conf
conf_with admin pushed = record { admin = admin; pushed = Some pushed }

-- the conf at the commit that a push puts in force, if it does
abbrev pub conf_by : Name → Option CommitAmong → Option Conf
conf_by admin pushed = option_map (conf_with admin) pushed

-- the conf of the first command for the conf's branch that is done
abbrev pub conf_chosen : Name → List Command → List Outcome → List (Option Conf) → Option Conf
conf_chosen repo [] outcomes confs = None
conf_chosen repo (c ∷ cs) [] confs = None
conf_chosen repo (c ∷ cs) (o ∷ os) [] = None
conf_chosen repo (c ∷ cs) (o ∷ os) (f ∷ fs) = if is_of_conf repo c.name && is_done o then f else conf_chosen repo cs os fs
