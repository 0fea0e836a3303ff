-- A small protocol, and what the definitions say of it: they compute.
use Rattle.std.proofs.Common.{◌≡◌, ℕ, false, List, [], ◌∷◌, Result, Ok, Err, refl, sym}
use Rattle.std.specs.Prelude.{codes}
use Rattle.std.specs.Bool.{⊤}
use Rattle.pktline_core.specs.LinkState.{LinkState}
use Rattle.pktline_core.specs.Packets as packets
use Rattle.pktline_core.specs.Packets.{packet_front}
use Rattle.pktline_core.specs.declared.packets.PktFault.{PktFault}
use Rattle.access_check.specs.declared.verdicts.Want.TheVariants.{Read}
use Rattle.hub_history.specs.declared.entry.EnterKept.{EnterKept}
use Rattle.hub_history.specs.declared.entry.EnterKept.TheVariants.{Granted, NoRepo}
use Rattle.hub_history.specs.declared.entry.Event.{Event}
use Rattle.hub_history.specs.declared.entry.Event.TheVariants.{Entered}
use Rattle.interaction_tree.specs.Wanted.{Packet, front_of}
use Rattle.hub_history.specs.Requests.{Request, Enter}
use Rattle.interaction_tree.specs.Requests.{OwnEntry}
use Rattle.interaction_tree.specs.Interaction.{Interaction, gives, ends, writes, ◌>>=◌, write, read, ask}
use Rattle.interaction_tree.specs.Turns.{Stop, Gave, Ended, Unanswered, Waiting, turn_over, turn, due}
use Rattle.interaction_tree.specs.Order.{EntriesFirst, IsOrdered}
use Rattle.interaction_tree.specs.Endings.{FailsReading, FailsWriting}
use Rattle.interaction_tree.proofs.OrderLemmas.{order_bind}

-- a name is read, its owner opens a repository, and is greeted where the log records that it was granted; an
-- input that ends inside the name is told so

unfoldable name_in : Result packets.Packet PktFault → Interaction ℕ (List ℕ)
name_in (Ok (packets.Line payload)) = gives payload
name_in (Ok packets.Flush) = ends 2
name_in (Err fault) = do
  _ ← write (codes "bad")
  ends 3

abbrev opening : List ℕ → Request
opening name = Enter name (codes "testing") Read

abbrev greeted : Event → List ℕ
greeted (Entered user repo want Granted) = codes "hello"
greeted other = codes "sorry"

unfoldable greeting : Interaction ℕ (Unit {0})
greeting = do
  first ← read Packet (λ fault. record { bytes = codes "cut"; end = 1 })
  name ← name_in first.found
  own ← ask (opening name)
  write (greeted own.entry.event)

-- an opening's entry with this answer
entered : EnterKept → OwnEntry
entered answer = record { before = []; entry = record { caller = 7; event = Entered (codes "bob") (codes "testing") Read answer } }

-- what follows the packet isn't used
served : turn greeting (codes "0007boband more") (entered Granted ∷ []) ≡ record { used = codes "0007bob"; requests = opening (codes "bob") ∷ []; bytes = codes "hello"; stop = Gave tt }
unfolding turn_over greeting name_in ◌>>=◌ read write ask front_of packet_front entered
served = refl

-- the recorded answer decides what follows
refused : turn greeting (codes "0007bob") (entered NoRepo ∷ []) ≡ record { used = codes "0007bob"; requests = opening (codes "bob") ∷ []; bytes = codes "sorry"; stop = Gave tt }
unfolding turn_over greeting name_in ◌>>=◌ read write ask front_of packet_front entered
refused = refl

-- the entry is due, and what follows its answer isn't yet
unanswered : turn greeting (codes "0007bob") [] ≡ record { used = codes "0007bob"; requests = opening (codes "bob") ∷ []; bytes = []; stop = Unanswered }
unfolding turn_over greeting name_in ◌>>=◌ read write ask front_of packet_front
unanswered = refl

cut : turn greeting (codes "0007b") [] ≡ record { used = codes "0007b"; requests = []; bytes = codes "cut"; stop = Ended 1 }
unfolding turn_over greeting name_in ◌>>=◌ read write ask front_of packet_front
cut = refl

waiting : due greeting (codes "0007b") [] ≡ record { used = codes "0007b"; requests = []; bytes = []; stop = Waiting }
unfolding turn_over greeting name_in ◌>>=◌ read write ask front_of packet_front
waiting = refl

bad_length : turn greeting (codes "0003bob") [] ≡ record { used = codes "0003"; requests = []; bytes = codes "bad"; stop = Ended 3 }
unfolding turn_over greeting name_in ◌>>=◌ read write ask front_of packet_front
bad_length = refl

ended_waits : (stop : Stop ℕ (Unit {0})) → stop ≡ Ended 1 → stop ≡ Waiting → ⊥
ended_waits stop ended waits = absurd cc

-- a session that has ended fails no read
ended_reads_no_more : (link link' : LinkState) (own : List OwnEntry) → FailsReading {E = ℕ} {A = Unit {0}} link link' own (ends 1) → ⊥
unfolding turn_over
ended_reads_no_more link link' own fails = ended_waits (Ended 1) refl fails.waits

-- nothing is read before a write that fails, where nothing is wanted
writes_unread : (link link' : LinkState) (own : List OwnEntry) → (fails : FailsWriting {E = ℕ} {A = Unit {0}} link link' own (writes (codes "hello") (ends 1))) → fails.part ≡ []
unfolding turn_over
writes_unread link link' own fails = sym fails.used

-- an entry, and then bytes
then_greets : List ℕ → Interaction ℕ (Unit {0})
then_greets name = do
  own ← ask (opening name)
  write (greeted own.entry.event)

name_ordered : (found : Result packets.Packet PktFault) → EntriesFirst false (name_in found) (λ wrote name. EntriesFirst wrote (then_greets name) (λ wrote unit. ⊤))
unfolding EntriesFirst name_in then_greets ◌>>=◌ write ask
name_ordered (Ok (packets.Line payload)) = (refl, λ own. tt)
name_ordered (Ok packets.Flush) = tt
name_ordered (Err fault) = tt

greeting_ordered : IsOrdered greeting
unfolding EntriesFirst greeting then_greets ◌>>=◌ read
greeting_ordered = λ reply. order_bind false (name_in reply.found) then_greets (λ wrote unit. ⊤) (name_ordered reply.found)

-- one that greets first isn't in order
greeted_first : (request : Request) → IsOrdered {E = ℕ} (write (codes "hello") >>= λ unit. ask request) → ⊥
unfolding EntriesFirst ◌>>=◌ write ask
greeted_first request ordered = absurd cc
