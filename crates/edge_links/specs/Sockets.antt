-- What a connection and a listener are to contracts.
use Rattle.std.specs.Prelude.{◌≡◌, ⊤, ℕ, ◌==◌, Bool, true, false, not, if◌then◌else◌, List, [], is_some}
use Rattle.std.specs.Io.Buffered.{writer_buffer}
use Rattle.std.specs.declared.option.Option.{Option}
use Rattle.std.specs.declared.option.Option.TheVariants.{None, Some}
use Rattle.std.specs.declared.net.TcpStream.{TcpStream}
use Rattle.base_types.specs.Counts.{one_more}
use Rattle.pktline_core.specs.LinkState.{LinkState, Whole}
use Rattle.pktline_core.specs.declared.links.Taken.{Taken}
use Rattle.pktline_core.specs.declared.links.Taken.TheVariants as taken
use Rattle.pktline_core.specs.declared.links.Put.{Put}
use Rattle.pktline_core.specs.declared.links.Put.TheVariants as put
use Rattle.edge_links.specs.Door.{DoorState}
use Rattle.edge_links.specs.declared.door.Next.{Next}
use Rattle.edge_links.specs.declared.door.Next.TheVariants as next
use Rattle.edge_links.specs.declared.stream_link.StreamLink.{StreamLink}
use Rattle.edge_links.specs.declared.stream_link.Closing.{Closing}
use Rattle.edge_links.specs.declared.tcp_link.TcpLink.{TcpLink}
use Rattle.edge_links.specs.declared.tcp_door.TcpDoor.{TcpDoor}

-- A connection with these bytes left, which has given so many and failed so often at reading; to which these
-- were written, and which failed so often at writing. Bytes are told where its stream tells them.
abbrev pub socket_state : Option (List ℕ) → ℕ → ℕ → Option (List ℕ) → ℕ → LinkState
socket_state left given read_faults written write_faults = record {
  left = left;
  given = given;
  read_faults = read_faults;
  written = written;
  write_faults = write_faults;
  may_lack = false;
  may_fail = true;
  tells = false;
  limits = Whole;
}

-- The bytes that were put and not sent as yet. What was written is what its stream has sent, and then these.
abbrev pub gathered : {S : Type 0} → StreamLink S → List ℕ
gathered link = writer_buffer link.sink.output

-- whether bytes couldn't be sent
abbrev pub is_broken : {S : Type 0} → StreamLink S → Bool
is_broken link = link.broken

-- whether a put has failed
abbrev pub is_failed_put : Put → Bool
is_failed_put (put.Took n) = false
is_failed_put put.Failed = true
is_failed_put put.NoMemory = false

-- Behind a take that hasn't failed all that was put is sent. (It is sent first: where it can't be sent the take
-- has failed, and took nothing.)
abbrev pub SendsFirst : {S : Type 0} → StreamLink S → Taken → Type 0
SendsFirst new taken.Failed = ⊤
SendsFirst new answer = (gathered new ≡ []) × (is_broken new ≡ false)

-- a listener's door that failed so often, with so many links out; it never closes
abbrev pub listener_state : {L : Type 0} → ℕ → ℕ → DoorState L
listener_state faults out = record {
  left = None;
  served = None;
  faults = faults;
  closed = false;
  out = not (out == 0);
}

-- the count of faults after a call of `next` with this answer
abbrev pub faults_after_next : {L : Type 0} → ℕ → Next L → ℕ
faults_after_next faults (next.Link link) = faults
faults_after_next faults next.Closed = faults
faults_after_next faults next.Failed = one_more faults

-- whether the door has a listener
abbrev pub has_listener : TcpDoor → Bool
has_listener d = is_some d.listener

-- how many links are out
abbrev pub links_out : TcpDoor → ℕ
links_out d = d.out

-- how many links were given back of which not all could be sent
abbrev pub unsent_links : TcpDoor → ℕ
unsent_links d = d.unsent

-- that count after a link was closed
abbrev pub unsent_after : ℕ → Closing TcpStream → ℕ
unsent_after unsent closing = if closing.sent then unsent else one_more unsent

-- how the link that was given back last was closed
abbrev pub last_closing : TcpDoor → Option (Closing TcpStream)
last_closing d = d.last

-- This link was closed: all that was put is sent, or the link is counted.
abbrev pub Closes : (StreamLink TcpStream → LinkState) → ℕ → ℕ → TcpLink → Option (Closing TcpStream) → Type 0
Closes state old new link None = ⊥
Closes state old new link (Some closing) = (state closing.link.value ≡ state link.stream) × (closing.sent ≡ true → gathered closing.link.value ≡ []) × (new ≡ unsent_after old closing)
