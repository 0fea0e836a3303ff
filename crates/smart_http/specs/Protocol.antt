-- Requests, as a protocol.
use Rattle.std.specs.Prelude.{Bool, true, false}
use Rattle.session_core.specs.Protocol.{Meaning}
use Rattle.session_core.specs.declared.end.SessionEnd.TheVariants as session
use Rattle.smart_http.specs.End.{TellsRequest, http_halt}
use Rattle.smart_http.specs.Running.{IsSteady, TakesRequest}
use Rattle.smart_http.specs.declared.end.HttpEnd.{HttpEnd}
use Rattle.smart_http.specs.declared.end.HttpEnd.TheVariants as end

-- whether a request ran out of memory
abbrev pub is_lack : HttpEnd → Bool
is_lack end.NoMemory = true
is_lack (end.Received session.NoMemory) = true
is_lack (end.Uploaded session.NoMemory) = true
is_lack other = false

-- a link is served by one request
abbrev pub requests : Meaning HttpEnd
requests = record {
  halt = http_halt;
  takes = λ book admin link link' own end. IsSteady link → TakesRequest book admin link link' own end;
  tells = TellsRequest;
  lacks = is_lack;
}
