-- Sessions, as a protocol.
use Rattle.std.specs.Prelude.{Bool, true, false}
use Rattle.interaction_tree.specs.Endings.{TakesTurn}
use Rattle.session_core.specs.declared.end.SessionEnd.{SessionEnd}
use Rattle.session_core.specs.declared.end.SessionEnd.TheVariants as end
use Rattle.session_core.specs.End.{TellsEnd, halt_of}
use Rattle.session_core.specs.Protocol.{Meaning}
use Rattle.git_session.specs.Session.{session}

-- whether a session ran out of memory
abbrev pub is_lack : SessionEnd → Bool
is_lack end.NoMemory = true
is_lack other = false

-- a link is served by one session
abbrev pub sessions : Meaning SessionEnd
sessions = record {
  halt = halt_of;
  takes = λ book admin link link' own end. TakesTurn link link' own (session book admin) (halt_of end);
  tells = TellsEnd;
  lacks = is_lack;
}
