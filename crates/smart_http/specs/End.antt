-- The ends of a request, as its interaction sees them.
use Rattle.std.specs.Prelude.{◌≡◌, Bool, true, Result, Ok, Err}
use Rattle.pktline_core.specs.LinkState.{LinkState}
use Rattle.pktline_core.specs.declared.links.WriteFault as cause
use Rattle.pktline_core.specs.declared.links.WriteFault.TheVariants as write
use Rattle.interaction_tree.specs.Traces.{Reading, Writing, Memory, Halt, Ended, Failed, halt_as}
use Rattle.session_core.specs.declared.end.SessionEnd.{SessionEnd}
use Rattle.session_core.specs.declared.end.SessionEnd.TheVariants as session
use Rattle.session_core.specs.End.{TellsHalt, halt_of}
use Rattle.upload_pack.specs.declared.uploading.FetchEnd.{FetchEnd}
use Rattle.upload_pack.specs.Uploading.{fetched_end}
use Rattle.smart_http.specs.declared.end.HttpEnd.{HttpEnd}
use Rattle.smart_http.specs.declared.end.HttpEnd.TheVariants.{Refused, Denied, NoRepo, Advertised, Received, Uploaded, Truncated, ReadFault, WriteFault, NoMemory}

-- an end that the interaction gives, or what may stop it anywhere
abbrev pub http_halt : HttpEnd → Halt HttpEnd
http_halt (Refused fault) = Ended (Refused fault)
http_halt Denied = Ended Denied
http_halt NoRepo = Ended NoRepo
http_halt Advertised = Ended Advertised
http_halt (Received end) = halt_as Received (halt_of end)
http_halt (Uploaded end) = halt_as Uploaded (halt_of end)
http_halt Truncated = Ended Truncated
http_halt ReadFault = Failed Reading
http_halt WriteFault = Failed Writing
http_halt NoMemory = Failed Memory

-- how a request is left behind a response that ends it so
abbrev pub halt_behind : HttpEnd → Result (Unit {0}) cause.WriteFault → Halt HttpEnd
halt_behind end (Ok unit) = Ended end
halt_behind end (Err write.Failed) = Failed Writing
halt_behind end (Err write.NoMemory) = Failed Memory

-- No failure of the link is hidden. Behind the last byte of a body no read can fail, but by its contract the
-- rest of a session might say so; that would be told as want of memory, so of this end only writes are told.
abbrev pub TellsRequest : LinkState → LinkState → HttpEnd → Type 0
TellsRequest old new NoMemory = new.write_faults ≡ old.write_faults
TellsRequest old new end = TellsHalt old new (http_halt end)

-- how a push ends its request; all of the body was given or not
abbrev pub received_end : Result (Unit {0}) SessionEnd → Bool → HttpEnd
received_end (Ok done) spent = Received session.Served
received_end (Err session.ReadFault) true = NoMemory
received_end (Err end) spent = Received end

-- how a fetch does
abbrev pub uploaded_end : Result FetchEnd SessionEnd → Bool → HttpEnd
uploaded_end (Ok done) spent = Uploaded (fetched_end done)
uploaded_end (Err session.ReadFault) true = NoMemory
uploaded_end (Err end) spent = Uploaded end
