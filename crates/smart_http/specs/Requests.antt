-- A request of Git's smart HTTP, as an interaction.
use Rattle.std.specs.Prelude.{ℕ, List, [], ◌++◌, codes, Option, None, Some, Result, Ok, Err}
use Rattle.pktline_core.specs.Packets.{spelling, Flush}
use Rattle.ref_store.specs.Refs.{Name}
use Rattle.rule_compile.specs.declared.rule.Rule.{Rule}
use Rattle.access_check.specs.declared.verdicts.Want.{Want}
use Rattle.access_check.specs.declared.verdicts.Want.TheVariants.{Read, Write}
use Rattle.hub_history.specs.Opening.{Opening}
use Rattle.hub_history.specs.State.{store_of}
use Rattle.request_head.specs.Responses.{refusal, refusal_of, response_head}
use Rattle.request_head.specs.Targets.{service_name}
use Rattle.request_head.specs.declared.fault.HttpFault.{HttpFault}
use Rattle.request_head.specs.declared.fault.HttpFault.TheVariants.{HeadTooLong}
use Rattle.request_head.specs.declared.head.HeadFault.{HeadFault}
use Rattle.request_head.specs.declared.request.HttpRequest.{HttpRequest}
use Rattle.request_head.specs.declared.response.Media.TheVariants.{Advertisement, Answer}
use Rattle.request_head.specs.declared.target.Service.{Service}
use Rattle.request_head.specs.declared.target.Service.TheVariants.{ReceivePack, UploadPack}
use Rattle.interaction_tree.specs.Wanted.{Head}
use Rattle.interaction_tree.specs.Interaction.{Interaction, ends, ending_as, limits, ◌>>=◌, read, write}
use Rattle.session_core.specs.Denials.{denial, open_text}
use Rattle.session_core.specs.Opening.{Opened, LetIn, Refused, Absent, opening}
use Rattle.session_core.specs.Packets.{packet}
use Rattle.session_core.specs.Rulebook.{Rulebook}
use Rattle.receive_pack.specs.Receiving.{commanding, pushed_end}
use Rattle.receive_pack.specs.Texts as receive
use Rattle.upload_pack.specs.Advertising as upload
use Rattle.upload_pack.specs.Uploading.{fetched_end, wanting}
use Rattle.smart_http.specs.declared.end.HttpEnd.{HttpEnd}
use Rattle.smart_http.specs.declared.end.HttpEnd.TheVariants as end

-- what a service wants of the repository
abbrev pub want_of : Service → Want
want_of ReceivePack = Write
want_of UploadPack = Read

-- I. Responses

-- a response, and the end
unfoldable pub answering : List ℕ → HttpEnd → Interaction HttpEnd (Unit {0})
answering bytes end = do
  written ← write bytes
  ends end

-- a refusal before a repository is opened
abbrev pub refusing : HttpFault → Interaction HttpEnd (Unit {0})
refusing fault = answering (refusal_of fault) (end.Refused fault)

-- the text of a denied opening
abbrev pub denied_text : HttpRequest → Option Rule → List ℕ
denied_text request rule = denial (open_text (want_of request.service)) request.repo request.user rule ++ codes "\n"

-- the line in front of the refs
abbrev pub service_line : Service → List ℕ
service_line service = codes "# service=" ++ service_name service ++ codes "\n"

-- the refs of what an opening pinned, as the service advertises them
abbrev pub refs_of : Service → Opening → List ℕ
refs_of ReceivePack opening = receive.advertisement opening.pinned.repository.refs
refs_of UploadPack opening = upload.advertisement (store_of opening.pinned.repository)

-- what is behind the line in front of the refs
unfoldable pub writing_refs : {E : Type 0} → Service → Opening → Interaction E (Unit {0})
writing_refs service opening = do
  flush ← write (spelling Flush)
  write (refs_of service opening)

unfoldable pub writing_line : {E : Type 0} → Service → Opening → Interaction E (Unit {0})
writing_line service opening = do
  line ← write (packet (service_line service))
  writing_refs service opening

-- the refs, with the head of the response
unfoldable pub writing_advertisement : {E : Type 0} → Service → Opening → Interaction E (Unit {0})
writing_advertisement service opening = do
  head ← write (response_head 200 (Advertisement service))
  writing_line service opening

unfoldable pub advertising : Service → Opening → Interaction HttpEnd (Unit {0})
advertising service opening = do
  written ← writing_advertisement service opening
  ends end.Advertised

-- II. The rest of a session, as the body of a request

unfoldable pub receiving : Rulebook → Opening → Interaction HttpEnd (Unit {0})
receiving book opening = do
  done ← ending_as end.Received (commanding book opening 0)
  ends (end.Received (pushed_end done))

unfoldable pub uploading : Opening → Interaction HttpEnd (Unit {0})
uploading opening = do
  done ← ending_as end.Uploaded (wanting (store_of opening.pinned.repository) 0)
  ends (end.Uploaded (fetched_end done))

abbrev pub body_of : Rulebook → Service → Opening → Interaction HttpEnd (Unit {0})
body_of book ReceivePack opening = receiving book opening
body_of book UploadPack opening = uploading opening

-- the head of the response is due before the body is read, which has so many bytes
unfoldable pub calling : Rulebook → Service → Opening → ℕ → Interaction HttpEnd (Unit {0})
calling book service opening most = do
  head ← write (response_head 200 (Answer service))
  limits most (body_of book service opening)

-- III. The whole of it

-- by the length of the body, where there is one
abbrev pub responding : Rulebook → Service → Opening → Option ℕ → Interaction HttpEnd (Unit {0})
responding book service opening None = advertising service opening
responding book service opening (Some most) = calling book service opening most

-- by what the opening came to
abbrev pub by_opened : Rulebook → HttpRequest → Opened → Interaction HttpEnd (Unit {0})
by_opened book request (LetIn opening) = responding book request.service opening request.body
by_opened book request (Refused rule) = answering (refusal 403 (denied_text request rule)) end.Denied
by_opened book request Absent = answering (refusal 404 (codes "no such repository\n")) end.NoRepo

-- what a head asks for, the opening, and the response
unfoldable pub entering : Rulebook → Name → HttpRequest → Interaction HttpEnd (Unit {0})
entering book admin request = do
  opened ← opening book admin request.user request.repo (want_of request.service)
  by_opened book request opened

-- by what a head says
abbrev pub by_answer : Result HttpRequest HttpFault → Rulebook → Name → Interaction HttpEnd (Unit {0})
by_answer (Err fault) book admin = refusing fault
by_answer (Ok request) book admin = entering book admin request

-- a head that is too long is refused whatever it says
abbrev pub by_head : Result HttpRequest HttpFault → Rulebook → Name → Result (List ℕ) HeadFault → Interaction HttpEnd (Unit {0})
by_head answer book admin (Err fault) = refusing HeadTooLong
by_head answer book admin (Ok head) = by_answer answer book admin

-- A request whose head says this, at a hub of this admin's setup, by the rules that are in force along its
-- log.
unfoldable pub requesting : Result HttpRequest HttpFault → Rulebook → Name → Interaction HttpEnd (Unit {0})
requesting answer book admin = do
  head ← read Head (λ fault. record { bytes = []; end = end.Truncated })
  by_head answer book admin head.found
