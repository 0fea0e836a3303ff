-- A conf in force as contracts see it.
use Rattle.std.specs.Option.{option_map}
use Rattle.hub_history.specs.State as history
use Rattle.hub_state.specs.declared.conf.Held.{Held}
use Rattle.hub_state.specs.declared.conf.CommitAmong.{CommitAmong}

abbrev pub commit_of : CommitAmong → history.CommitAmong
commit_of pushed = record { objects = pushed.objects; commit = pushed.commit }

-- whose setup it began with, and the commit where it was pushed
abbrev pub conf_of : Held → history.Conf
conf_of held = record { admin = held.admin; pushed = option_map commit_of held.pushed }
