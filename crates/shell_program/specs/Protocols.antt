-- Sessions and requests, as the protocols of one server.
use Rattle.std.specs.Prelude.{Bool, List}
use Rattle.pktline_core.specs.LinkState.{LinkState}
use Rattle.ref_store.specs.Refs.{Name}
use Rattle.interaction_tree.specs.Endings.{TakesTurn}
use Rattle.interaction_tree.specs.Requests.{OwnEntry}
use Rattle.interaction_tree.specs.Traces.{Halt, halt_as}
use Rattle.session_core.specs.End.{TellsEnd, halt_of}
use Rattle.session_core.specs.Protocol.{Meaning}
use Rattle.session_core.specs.Rulebook.{Rulebook}
use Rattle.git_session.specs.Protocol as git
use Rattle.git_session.specs.Session.{session}
use Rattle.smart_http.specs.End.{TellsRequest, http_halt}
use Rattle.smart_http.specs.Protocol as http
use Rattle.smart_http.specs.Running.{IsSteady, TakesRequest}
use Rattle.shell_words.specs.declared.commands.Transport.{Transport}
use Rattle.shell_words.specs.declared.commands.Transport.TheVariants as transport
use Rattle.shell_program.specs.declared.protocols.ServerProtocol.{ServerProtocol}
use Rattle.shell_program.specs.declared.protocols.ServerProtocol.TheVariants.{Git, Http}
use Rattle.shell_program.specs.declared.protocols.ServerEnd.{ServerEnd}
use Rattle.shell_program.specs.declared.protocols.ServerEnd.TheVariants as end

-- the ends of sessions and those of requests, told apart
abbrev pub server_halt : ServerEnd → Halt ServerEnd
server_halt (end.Git e) = halt_as end.Git (halt_of e)
server_halt (end.Http e) = halt_as end.Http (http_halt e)

-- A link is served by one session, or by one request, with an end of its own kind. Of a request this is said
-- over links that tell nothing of what is left, or go on telling it.
abbrev pub TakesServed : ServerProtocol → Rulebook → Name → LinkState → LinkState → List OwnEntry → ServerEnd → Type 0
TakesServed Git book admin old new own (end.Git e) = TakesTurn old new own (session book admin) (halt_of e)
TakesServed Http book admin old new own (end.Http e) = IsSteady old → TakesRequest book admin old new own e
TakesServed protocol book admin old new own other = ⊥

-- no failure of the link is hidden
abbrev pub TellsServed : LinkState → LinkState → ServerEnd → Type 0
TellsServed old new (end.Git e) = TellsEnd old new e
TellsServed old new (end.Http e) = TellsRequest old new e

-- whether memory ran out
abbrev pub is_server_lack : ServerEnd → Bool
is_server_lack (end.Git e) = git.is_lack e
is_server_lack (end.Http e) = http.is_lack e

-- what a post serves over each of its links
abbrev pub meaning_of : ServerProtocol → Meaning ServerEnd
meaning_of protocol = record {
  halt = server_halt;
  takes = TakesServed protocol;
  tells = TellsServed;
  lacks = is_server_lack;
}

abbrev pub protocol_of : Transport → ServerProtocol
protocol_of transport.Git = Git
protocol_of transport.Http = Http
